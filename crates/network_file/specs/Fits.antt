-- The parts of a study that the limits of its lines, relays, faults and pairs speak of.
use Rattle.std.specs.Prelude.{ℕ, ◌<◌, List, []}
use Rattle.coord_model.specs.PartLimits.{IsBetween}
use Rattle.coord_model.specs.StudyData.{StudyData}
use Rattle.coord_model.specs.declared.name.Name.{Name}
use Rattle.coord_model.specs.declared.study.Exempt.{Exempt}
use Rattle.coord_model.specs.declared.study.Line.{Line}
use Rattle.coord_model.specs.declared.study.PairInterval.{PairInterval}
use Rattle.coord_model.specs.declared.study.Relay.{Relay}

-- a study of these buses, lines and relays, and nothing else
abbrev pub study_with : List Name → List Line → List Relay → StudyData
study_with buses lines relays = record {
  format = 0;
  cti_ms = 0;
  sense = 0;
  cap = 0;
  load_percent = 0;
  buses = buses;
  lines = lines;
  relays = relays;
  faults = [];
  exempt = [];
  intervals = [];
}

-- both relays of the pair are below the count
pub record IsPairBelow (count : ℕ) (pair : Exempt) : Type 0 where
  pub backup : pair.backup < count
  pub primary : pair.primary < count

-- both relays of the interval are below the count, and it is within its limits
pub record IsIntervalBelow (count : ℕ) (own : PairInterval) : Type 0 where
  pub backup : own.backup < count
  pub primary : own.primary < count
  pub cti_ms : IsBetween 1 own.cti_ms 10000

-- the relay's line and its bus are below the counts
pub record IsRelayBelow (bus_count line_count : ℕ) (relay : Relay) : Type 0 where
  pub bus : relay.bus < bus_count
  pub line : relay.line < line_count
