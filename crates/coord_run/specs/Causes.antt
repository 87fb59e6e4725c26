-- Why a file, a network, a currents table or the case of both is refused (ours).
use Rattle.std.specs.Prelude.{◌≡◌, ◌⊎◌, ℕ, ◌<◌, Option, Some, None, List, length, slice_get}
use Rattle.std.specs.Option.{option_map}
use Rattle.coord_io.specs.Faults.{Rose}
use Rattle.coord_io.specs.Files.{IsLonger, held}
use Rattle.coord_io.specs.Outside.{FolderState, Told}
use Rattle.coord_model.specs.StudyData.{StudyData}
use Rattle.coord_model.specs.declared.kinds.What.TheVariants as what
use Rattle.coord_run.specs.FileLimits.{most_bytes_of}
use Rattle.coord_run.specs.Inputs.{HasNetworkFault, HasTableFault, IsNetwork, ReadsAs}
use Rattle.coord_run.specs.declared.refusal.File.{File}
use Rattle.coord_run.specs.declared.refusal.File.TheVariants as file
use Rattle.coord_run.specs.declared.refusal.Refusal.{Refusal}
use Rattle.coord_run.specs.declared.refusal.Refusal.TheVariants.{Missing, ReadFault, TooLong, NotText, NotToml, Network, TooMany, BadHeader, BadRecord, UnknownFault, UnknownRelay, BadAmps, DoubleEntry, NoPrimary}
use Rattle.fault_table.specs.declared.fault.TableFault.{TableFault}
use Rattle.fault_table.specs.declared.fault.TableFault.TheVariants as table
use Rattle.margin_rows.specs.Case.{rows_in}
use Rattle.network_file.specs.declared.fault.NetFault.{NetFault}
use Rattle.network_file.specs.declared.fault.NetFault.TheVariants as net

-- There is no file of the name. If the folder doesn't tell its files, reading failed.
pub record IsAbsent (before after : FolderState) (name : List ℕ) : Type 0 where
  pub absent : Told before after (λ m. held m name ≡ None)
  pub untold : after.files ≡ None → Rose before.reads after.reads

-- why the file of this name is refused before its text is looked at
abbrev pub FileCause : FolderState → FolderState → List ℕ → File → Refusal → Type 0
FileCause before after name of_file refusal =
    ((refusal ≡ Missing of_file) × IsAbsent before after name)
    ⊎ (((refusal ≡ ReadFault of_file) × Rose before.reads after.reads)
    ⊎ ((refusal ≡ TooLong of_file) × Told before after (λ m. IsLonger m name (most_bytes_of of_file))))

-- how a fault of the network file is refused; want of memory is none
abbrev pub network_refusal : NetFault → Option Refusal
network_refusal net.NotText = Some NotText
network_refusal net.NotToml = Some NotToml
network_refusal (net.At kind in_table index key) = Some (Network kind in_table index key)
network_refusal (net.TooMany of_what limit) = Some (TooMany of_what limit)
network_refusal net.NoMemory = None

-- why the network file of this name is refused
abbrev pub NetworkCause : FolderState → FolderState → List ℕ → Refusal → Type 0
NetworkCause before after name refusal =
    FileCause before after name file.Network refusal
    ⊎ ((found : NetFault) × Told before after (λ m. HasNetworkFault m name found) × (network_refusal found ≡ Some refusal))

-- the fault of the study with this number has this name
abbrev pub NamesFault : StudyData → ℕ → List ℕ → Type 0
NamesFault study number name = option_map (λ f. f.name) (slice_get study.faults number) ≡ Some name

-- a fault of the currents table is refused so; want of memory is none
abbrev pub IsTableRefusal : StudyData → TableFault → Refusal → Type 0
IsTableRefusal study table.BadHeader refusal = refusal ≡ BadHeader
IsTableRefusal study (table.BadRecord n) refusal = refusal ≡ BadRecord n
IsTableRefusal study (table.UnknownFault n) refusal = refusal ≡ UnknownFault n
IsTableRefusal study (table.UnknownRelay n) refusal = refusal ≡ UnknownRelay n
IsTableRefusal study (table.BadAmps n) refusal = refusal ≡ BadAmps n
IsTableRefusal study (table.DoubleEntry n) refusal = refusal ≡ DoubleEntry n
IsTableRefusal study (table.TooMany limit) refusal = refusal ≡ TooMany what.Currents limit
IsTableRefusal study (table.NoPrimary number) refusal = (name : List ℕ) × (refusal ≡ NoPrimary name) × NamesFault study number name
IsTableRefusal study table.NoMemory refusal = ⊥

-- why the currents table of this name is refused
abbrev pub TableCause : FolderState → FolderState → List ℕ → StudyData → Refusal → Type 0
TableCause before after name study refusal =
    FileCause before after name file.Currents refusal
    ⊎ ((found : TableFault) × Told before after (λ m. HasTableFault m name study found) × IsTableRefusal study found refusal)

-- why the two files are refused: the network file, or after it the currents table of its study
abbrev pub InputsCause : FolderState → FolderState → List ℕ → List ℕ → Refusal → Type 0
InputsCause before after network currents refusal =
    NetworkCause before after network refusal
    ⊎ ((study : StudyData) × Told before after (λ m. IsNetwork m network study) × TableCause before after currents study refusal)

-- why the two files make no case: they are refused, or it has more than 4,096 rows
abbrev pub CaseCause : FolderState → FolderState → List ℕ → List ℕ → Refusal → Type 0
CaseCause before after network currents refusal =
    InputsCause before after network currents refusal
    ⊎ ((refusal ≡ TooMany what.Rows 4096) × ReadsAs before after network currents (λ case. 4096 < length (rows_in case)))
