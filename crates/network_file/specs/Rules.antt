-- What a network file asks of a study beside the limits (ours).
use Rattle.std.specs.Prelude.{◌≡◌, false, ◌<◌, ◌≤◌, [], All}
use Rattle.std.specs.List.{IsDistinct, AllPairs}
use Rattle.std.specs.Str.{bytes_eq}
use Rattle.coord_model.specs.Form.{is_custom}
use Rattle.coord_model.specs.StudyData.{StudyData}
use Rattle.coord_model.specs.declared.study.PairInterval.{PairInterval}
use Rattle.coord_model.specs.declared.study.Relay.{Relay}
use Rattle.network_file.specs.Named.{told_of}
use Rattle.network_file.specs.Names.{buses_of, line_names, relay_names, fault_names}

-- the names of the lines differ, and so do those of the relays and of the faults; the buses are those that the
-- lines name as their ends, in the order in which they first come up
pub record IsNamed (study : StudyData) : Type 0 where
  pub lines : IsDistinct bytes_eq (line_names study.lines)
  pub relays : IsDistinct bytes_eq (relay_names study.relays)
  pub faults : IsDistinct bytes_eq (fault_names study.faults)
  pub buses : buses_of (told_of study).lines ≡ study.buses

-- a greatest time of the relay is not below its least time; a greatest time of 0 is none
abbrev pub HasTimesInOrder : Relay → Type 0
HasTimesInOrder relay = 0 < relay.most_ms → relay.least_ms ≤ relay.most_ms

-- the relay has neither a least nor a greatest time
pub record HasNoTimes (relay : Relay) : Type 0 where
  pub least_ms : relay.least_ms ≡ 0
  pub most_ms : relay.most_ms ≡ 0

-- the relay's curve is one of the standards'
abbrev pub HasNamedCurve : Relay → Type 0
HasNamedCurve relay = is_custom relay.curve ≡ false

-- both intervals are those of one pair
pub record AreOfOnePair (one other : PairInterval) : Type 0 where
  pub backup : one.backup ≡ other.backup
  pub primary : one.primary ≡ other.primary

-- a file of the study's format can give its times and curves: a greatest time is not below the least, no pair has
-- two intervals, a format before 2 gives no least and greatest times, one before 3 no intervals, and one before 4
-- no curves with constants of their own
pub record IsInFormat (study : StudyData) : Type 0 where
  pub in_order : All HasTimesInOrder study.relays
  pub once : AllPairs (λ one other. ¬ (AreOfOnePair one other)) study.intervals
  pub no_times : study.format < 2 → All HasNoTimes study.relays
  pub no_intervals : study.format < 3 → study.intervals ≡ []
  pub named : study.format < 4 → All HasNamedCurve study.relays
