-- The two files that a coordination is worked out from, and the case that they make (ours).
use Rattle.std.specs.Prelude.{◌≡◌, ℕ, ◌≤◌, Some, Ok, Err, List, length}
use Rattle.coord_io.specs.Files.{Files, held}
use Rattle.coord_io.specs.Outside.{FolderState, Told}
use Rattle.coord_model.specs.StudyData.{StudyData}
use Rattle.coord_model.specs.declared.study.Current.{Current}
use Rattle.fault_table.specs.Table.{currents_of}
use Rattle.fault_table.specs.declared.fault.TableFault.{TableFault}
use Rattle.margin_rows.specs.Case.{Case, rows_in}
use Rattle.network_file.specs.Network.{network_of}
use Rattle.network_file.specs.declared.fault.NetFault.{NetFault}

-- the most bytes of a network file and of a currents table: 4 MiB
abbrev pub most_bytes : ℕ
most_bytes = 4194304

-- the fact holds of the bytes of the file of this name, which has at most 4 MiB
abbrev pub Holds : Files → List ℕ → (List ℕ → Type 0) → Type 0
Holds m name P = (bytes : List ℕ) × (held m name ≡ Some bytes) × (length bytes ≤ most_bytes) × P bytes

-- the file is the network file of the study
abbrev pub IsNetwork : Files → List ℕ → StudyData → Type 0
IsNetwork m name study = Holds m name (λ bytes. network_of bytes ≡ Ok study)

-- the file is the table of the currents of the study
abbrev pub IsTable : Files → List ℕ → StudyData → List Current → Type 0
IsTable m name study currents = Holds m name (λ bytes. currents_of study bytes ≡ Ok currents)

-- the file is a network file with this fault
abbrev pub HasNetworkFault : Files → List ℕ → NetFault → Type 0
HasNetworkFault m name fault = Holds m name (λ bytes. network_of bytes ≡ Err fault)

-- the file is a currents table of the study with this fault
abbrev pub HasTableFault : Files → List ℕ → StudyData → TableFault → Type 0
HasTableFault m name study fault = Holds m name (λ bytes. currents_of study bytes ≡ Err fault)

-- the two files are those of the study and its currents
pub record AreInputs (m : Files) (network currents : List ℕ) (study : StudyData) (entries : List Current) : Type 0 where
  pub network_file : IsNetwork m network study
  pub table : IsTable m currents study entries

-- the two files are those of a case of which the fact holds
abbrev pub ReadsAs : FolderState → FolderState → List ℕ → List ℕ → (Case → Type 0) → Type 0
ReadsAs before after network currents P =
    (case : Case) × Told before after (λ m. AreInputs m network currents case.study case.currents) × P case

-- they are those of a case with at most 4,096 rows of which the fact holds
abbrev pub ReadsCase : FolderState → FolderState → List ℕ → List ℕ → (Case → Type 0) → Type 0
ReadsCase before after network currents P = ReadsAs before after network currents (λ case. (length (rows_in case) ≤ 4096) × P case)
