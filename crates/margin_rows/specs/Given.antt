-- The currents of a case as a table with a place for each fault and relay.
use Rattle.std.specs.Prelude.{◌≡◌, ℕ, ◌+◌, ◌*◌, ◌<◌, List, length, slice_index}
use Rattle.coord_model.specs.Limits.{FitsStudy, FitsCurrents}
use Rattle.coord_model.specs.Rows.{amps_at}
use Rattle.coord_model.specs.declared.study.Current.{Current}
use Rattle.margin_rows.specs.Case.{Case}

-- the entry is for one of the relays, and its place is in a table of this size
pub record HasPlace (relays size : ℕ) (entry : Current) : Type 0 where
  pub relay : entry.relay < relays
  pub place : entry.fault * relays + entry.relay < size

-- the table has the current of each of the relays at each fault, fault by fault
pub record HoldsAmps (relays : ℕ) (entries : List Current) (table : List ℕ) : Type 0 where
  pub each : (f r : ℕ) → r < relays → f * relays + r < length table → slice_index table (f * relays + r) ≡ amps_at entries f r

-- the study and its currents are within the limits, and the table has their currents
pub record IsGiven (case : Case) (table : List ℕ) : Type 0 where
  pub study : FitsStudy case.study
  pub currents : FitsCurrents case.study case.currents
  pub size : length table ≡ length case.study.faults * length case.study.relays
  pub amps : HoldsAmps (length case.study.relays) case.currents table
