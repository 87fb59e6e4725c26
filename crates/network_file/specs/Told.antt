-- What a network file tells, with names where a study has numbers, or its first fault (ours).
use Rattle.std.specs.Prelude.{ℕ, List, [], ◌∷◌, Result, Ok}
use Rattle.coord_model.specs.declared.kinds.Key.{Key}
use Rattle.coord_model.specs.declared.kinds.Key.TheVariants.{Format, Study, Line, Relay, Fault, Exempt, Interval}
use Rattle.coord_model.specs.declared.kinds.NetKind.TheVariants.{WrongKind}
use Rattle.network_file.specs.declared.entries.ExemptEntry.{ExemptEntry}
use Rattle.network_file.specs.declared.entries.FaultEntry.{FaultEntry}
use Rattle.network_file.specs.declared.entries.IntervalEntry.{IntervalEntry}
use Rattle.network_file.specs.declared.entries.LineEntry.{LineEntry}
use Rattle.network_file.specs.declared.entries.RelayEntry.{RelayEntry}
use Rattle.network_file.specs.declared.entries.StudyEntry.{StudyEntry}
use Rattle.network_file.specs.declared.fault.NetFault.{NetFault}
use Rattle.network_file.specs.declared.told.Told.{Told}
use Rattle.network_file.specs.Entries.{study_entry}
use Rattle.network_file.specs.Fault.{◌>>=◌, fault_at}
use Rattle.network_file.specs.Tables.{only, table_or}
use Rattle.network_file.specs.Values.{given, number_at}
use Rattle.network_file.specs.Words.{word_of}
use Rattle.toml.specs.Data.{Members, get_member}
use Rattle.network_file.specs.Elements.{top, study_place, lines_at, relays_at, faults_at, exempt_at, intervals_at}

-- what a network file tells
pub record ToldData : Type 0 where
  pub format : ℕ
  pub study : StudyEntry
  pub lines : List LineEntry
  pub relays : List RelayEntry
  pub faults : List FaultEntry
  pub exempt : List ExemptEntry
  pub intervals : List IntervalEntry

abbrev pub told_data : Told → ToldData
told_data told = record {
  format = told.format;
  study = told.study;
  lines = told.lines.items;
  relays = told.relays.items;
  faults = told.faults.items;
  exempt = told.exempt.items;
  intervals = told.intervals.items;
}

-- the keys of the top
abbrev pub top_keys : List Key
top_keys = Format ∷ Study ∷ Line ∷ Relay ∷ Fault ∷ Exempt ∷ Interval ∷ []

-- the study's table
unfoldable pub study_at : ℕ → Members → Result StudyEntry NetFault
study_at format members = do
  inner ← given top Study (table_or (fault_at top WrongKind Study)) (get_member (word_of Study) members)
  study_entry format study_place inner

-- the format first, then the keys of the top, then its tables in order
unfoldable pub told_in : Members → Result ToldData NetFault
told_in members = do
  format ← number_at top Format 1 4 members
  _ ← only format top top_keys members
  study ← study_at format members
  lines ← lines_at format members
  relays ← relays_at format members
  faults ← faults_at format members
  exempt ← exempt_at format members
  intervals ← intervals_at format members
  Ok (record {
    format = format;
    study = study;
    lines = lines;
    relays = relays;
    faults = faults;
    exempt = exempt;
    intervals = intervals;
  })
