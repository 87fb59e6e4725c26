-- A study and its currents as plain data, without the room that their vectors hold.
use Rattle.std.specs.Prelude.{ℕ, List}
use Rattle.coord_model.specs.declared.name.Name.{Name}
use Rattle.coord_model.specs.declared.study.Current.{Current}
use Rattle.coord_model.specs.declared.study.Currents.{Currents}
use Rattle.coord_model.specs.declared.study.Exempt.{Exempt}
use Rattle.coord_model.specs.declared.study.Fault.{Fault}
use Rattle.coord_model.specs.declared.study.Line.{Line}
use Rattle.coord_model.specs.declared.study.PairInterval.{PairInterval}
use Rattle.coord_model.specs.declared.study.Relay.{Relay}
use Rattle.coord_model.specs.declared.study.Study.{Study}

-- what a study holds
pub record StudyData : Type 0 where
  pub format : ℕ
  pub cti_ms : ℕ
  pub sense : ℕ
  pub cap : ℕ
  pub load_percent : ℕ
  pub buses : List Name
  pub lines : List Line
  pub relays : List Relay
  pub faults : List Fault
  pub exempt : List Exempt
  pub intervals : List PairInterval

-- the data of a study
abbrev pub study_data : Study → StudyData
study_data study = record {
  format = study.format;
  cti_ms = study.cti_ms;
  sense = study.sense;
  cap = study.cap;
  load_percent = study.load_percent;
  buses = study.buses.items;
  lines = study.lines.items;
  relays = study.relays.items;
  faults = study.faults.items;
  exempt = study.exempt.items;
  intervals = study.intervals.items;
}

-- the entries of the currents table, in the order of the file
abbrev pub entries_of : Currents → List Current
entries_of currents = currents.entries.items
