-- What reading the two files in turn says of the folder before and after both.
use Rattle.std.proofs.Common.{◌≡◌, ◌≢◌, ℕ, ◌≤◌, Some, None, Result, Err, List, length, ◌∙◌, subst, arith, inl, inr}
use Rattle.coord_io.proofs.Counting.{rose_last}
use Rattle.coord_io.proofs.Goings.{goes_as, goes_both, goes_on}
use Rattle.coord_io.specs.Files.{Files, IsLonger, held}
use Rattle.coord_io.specs.Goes.{Stays}
use Rattle.coord_model.specs.StudyData.{StudyData}
use Rattle.coord_model.specs.declared.study.Current.{Current}
use Rattle.coord_run.specs.Causes.{FileCause, InputsCause, IsAbsent, IsTableRefusal, NetworkCause, TableCause, network_refusal}
use Rattle.coord_run.specs.FileLimits.{most_bytes_of}
use Rattle.coord_run.specs.Inputs.{AreInputs, HasTableFault, Holds, IsNetwork, IsTable, ReadsCase, most_bytes}
use Rattle.coord_io.specs.Outside.{Changes, FolderState, IsMissing, IsReadAlone, Told}
use Rattle.coord_run.specs.Stops.{StopsFor}
use Rattle.coord_run.specs.declared.refusal.File.{File}
use Rattle.coord_run.specs.declared.refusal.File.TheVariants as file
use Rattle.coord_run.specs.declared.refusal.Refusal.{Refusal}
use Rattle.coord_run.specs.declared.refusal.Stop.{Stop}
use Rattle.coord_run.specs.declared.refusal.Stop.TheVariants as stop
use Rattle.fault_table.specs.Table.{currents_of}
use Rattle.fault_table.specs.declared.fault.TableFault.{TableFault}
use Rattle.fault_table.specs.declared.fault.TableFault.TheVariants as fault
use Rattle.margin_rows.specs.Case.{Case, rows_in}
use Rattle.network_file.specs.Fault.{Fails}
use Rattle.network_file.specs.Network.{network_of}
use Rattle.network_file.specs.declared.fault.NetFault.{NetFault}
use Rattle.network_file.specs.declared.fault.NetFault.TheVariants as net

-- a file that a read finds missing is absent
pub absent_of : (before after : FolderState) (name : List ℕ) → IsMissing name before after → IsAbsent before after name
absent_of before after name missing = record {
  absent = goes_as (λ m n told step. step.0) missing.absent;
  untold = missing.untold;
}

-- what holds of the bytes that were read holds of the file
pub held_as : (before after : FolderState) (name bytes : List ℕ) (P : List ℕ → Type 0) → length bytes ≤ most_bytes
    → Told before after (λ m. held m name ≡ Some bytes) → P bytes → Told before after (λ m. Holds m name P)
held_as before after name bytes P within read holds = goes_as (λ m n told is. (bytes, is, within, holds)) read

-- what was told before a later reading is told over both
pub told_first : (before between after : FolderState) {step : Files → Files → Type 0} (P : Files → Type 0) → Told before between P → Changes between after step → Told before after P
told_first before between after P first later = goes_on (λ l m n holds same. holds) first later

-- and what is told in the later reading is told over both
pub told_last : (before between after : FolderState) (P : Files → Type 0) → Changes before between Stays → Told between after P → Told before after P
told_last before between after P first later = goes_on (λ l m n same holds. subst P same holds) first later

-- two readings alone are a reading alone
pub alone_twice : (before between after : FolderState) → IsReadAlone before between → IsReadAlone between after → IsReadAlone before after
alone_twice before between after first later = record {
  stay = goes_on (λ l m n same again. again ∙ same) first.stay later.stay;
  reads = omega (arith, first.reads, later.reads);
  writes = later.writes ∙ first.writes;
}

-- an absent file was absent before an earlier reading
absent_last : (before between after : FolderState) (name : List ℕ) → IsReadAlone before between → IsAbsent between after name → IsAbsent before after name
absent_last before between after name first absent = record {
  absent = told_last before between after (λ m. held m name ≡ None) first.stay absent.absent;
  untold = λ is. rose_last before.reads between.reads after.reads first.reads (absent.untold is);
}

-- why a file is refused, after an earlier reading
pub file_last : (before between after : FolderState) (name : List ℕ) (of_file : File) (refusal : Refusal) → IsReadAlone before between
    → FileCause between after name of_file refusal → FileCause before after name of_file refusal
file_last before between after name of_file refusal first (inl missing) = inl (missing.0, absent_last before between after name first missing.1)
file_last before between after name of_file refusal first (inr (inl failed)) = inr (inl (failed.0, rose_last before.reads between.reads after.reads first.reads failed.1))
file_last before between after name of_file refusal first (inr (inr long)) =
    inr (inr (long.0, told_last before between after (λ m. IsLonger m name (most_bytes_of of_file)) first.stay long.1))

-- a stop for one cause is a stop for a wider one
pub stops_as : (stop : Stop) (P Q : Refusal → Type 0) → ((refusal : Refusal) → P refusal → Q refusal) → StopsFor stop P → StopsFor stop Q
stops_as stop.NoMemory P Q wider cause = tt
stops_as (stop.Refused refusal) P Q wider cause = wider refusal cause

-- a fault that is refused is the reading's
fails_is : (found : NetFault) (reading : Result StudyData NetFault) (refusal : Refusal) → network_refusal found ≡ Some refusal → Fails found reading → reading ≡ Err found
fails_is net.NotText reading refusal is fails = fails
fails_is net.NotToml reading refusal is fails = fails
fails_is (net.At kind table index key) reading refusal is fails = fails
fails_is (net.TooMany what limit) reading refusal is fails = fails
fails_is net.NoMemory reading refusal is fails = let no : ⊥ = cc in absurd no

-- a refusal for a fault of the network file
pub network_faulty : (before after : FolderState) (name bytes : List ℕ) (found : NetFault) (stop : Stop) → length bytes ≤ most_bytes
    → Told before after (λ m. held m name ≡ Some bytes) → Fails found (network_of bytes) → StopsFor stop (λ refusal. network_refusal found ≡ Some refusal)
    → StopsFor stop (NetworkCause before after name)
network_faulty before after name bytes found stop within read fails = stops_as stop _ _ (λ refusal is.
    inr (found, held_as before after name bytes (λ b. network_of b ≡ Err found) within read (fails_is found (network_of bytes) refusal is fails), is))

-- a refusal for a fault of the currents table
pub table_faulty : (before after : FolderState) (name : List ℕ) (study : StudyData) (bytes : List ℕ) (found : TableFault) (stop : Stop) → length bytes ≤ most_bytes
    → Told before after (λ m. held m name ≡ Some bytes) → (found ≢ fault.NoMemory → currents_of study bytes ≡ Err found)
    → StopsFor stop (IsTableRefusal study found) → StopsFor stop (TableCause before after name study)
table_faulty before after name study bytes found stop within read exact = stops_as stop _ _ (λ refusal is.
    inr (
      found,
      held_as before after name bytes (λ b. currents_of study b ≡ Err found) within read
          (exact (λ same. subst (λ f. IsTableRefusal study f refusal) same is)),
      is,
    ))

-- why the currents table is refused, after an earlier reading
table_last : (before between after : FolderState) (name : List ℕ) (study : StudyData) (refusal : Refusal) → IsReadAlone before between
    → TableCause between after name study refusal → TableCause before after name study refusal
table_last before between after name study refusal first (inl unread) = inl (file_last before between after name file.Currents refusal first unread)
table_last before between after name study refusal first (inr faulty) =
    inr (faulty.0, told_last before between after (λ m. HasTableFault m name study faulty.0) first.stay faulty.1, faulty.2)

-- a refusal about the currents table, after the reading of the network file
pub second_read : (before between after : FolderState) (network_name table_name : List ℕ) (study : StudyData) (stop : Stop)
    → IsReadAlone before between → IsReadAlone between after → Told before between (λ m. IsNetwork m network_name study)
    → StopsFor stop (TableCause between after table_name study) → StopsFor stop (InputsCause before after network_name table_name)
second_read before between after network_name table_name study stop first later one = stops_as stop _ _ (λ refusal cause.
    inr (study, told_first before between after (λ m. IsNetwork m network_name study) one later.stay, table_last before between after table_name study refusal first cause))

-- both files as they are told over both readings
pub inputs_told : (before between after : FolderState) (network currents : List ℕ) (study : StudyData) (entries : List Current)
    → IsReadAlone before between → IsReadAlone between after → Told before between (λ m. IsNetwork m network study)
    → Told between after (λ m. IsTable m currents study entries) → Told before after (λ m. AreInputs m network currents study entries)
inputs_told before between after network currents study entries first later one other =
    goes_as (λ m n told both. record { network_file = both.0; table = both.1 })
    (goes_both (told_first before between after (λ m. IsNetwork m network study) one later.stay)
    (told_last before between after (λ m. IsTable m currents study entries) first.stay other))

-- a fact about the case that was read, after a later reading
pub of_case : (before between after : FolderState) (network currents : List ℕ) (case : Case) (P : Case → Type 0) → IsReadAlone between after
    → length (rows_in case) ≤ 4096 → Told before between (λ m. AreInputs m network currents case.study case.currents) → P case
    → ReadsCase before after network currents P
of_case before between after network currents case P later few_rows read holds =
    (case, told_first before between after (λ m. AreInputs m network currents case.study case.currents) read later.stay, (few_rows, holds))
