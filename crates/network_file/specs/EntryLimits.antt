-- The limits that the numbers of each table keep (ours).
use Rattle.std.specs.Prelude.{◌≡◌, ℕ, false, ◌<◌, ◌≤◌, ◌⊎◌, All, [], length}
use Rattle.coord_model.specs.Form.{is_custom}
use Rattle.coord_model.specs.PartLimits.{IsBetween}
use Rattle.network_file.specs.Curves.{KeepsCurve}
use Rattle.network_file.specs.declared.entries.ExemptEntry.{ExemptEntry}
use Rattle.network_file.specs.declared.entries.FaultEntry.{FaultEntry}
use Rattle.network_file.specs.declared.entries.IntervalEntry.{IntervalEntry}
use Rattle.network_file.specs.declared.entries.LineEntry.{LineEntry}
use Rattle.network_file.specs.declared.entries.RelayEntry.{RelayEntry}
use Rattle.network_file.specs.declared.entries.StudyEntry.{StudyEntry}
use Rattle.network_file.specs.Told.{ToldData}

-- the study's numbers are within their limits
pub record StudyKeeps (entry : StudyEntry) : Type 0 where
  pub cti_ms : IsBetween 1 entry.cti_ms 10000
  pub sense : IsBetween 105 entry.sense 500
  pub cap : IsBetween 5 entry.cap 30
  pub load_percent : IsBetween 100 entry.load_percent 300

-- a line has no numbers
abbrev pub LineKeeps : LineEntry → Type 0
LineKeeps entry = Unit {0}

-- a relay's numbers are within their limits
pub record RelayKeeps (entry : RelayEntry) : Type 0 where
  pub curve : KeepsCurve entry.curve
  pub ct_primary : IsBetween 1 entry.ct_primary 10000
  pub ct_secondary : (entry.ct_secondary ≡ 1) ⊎ (entry.ct_secondary ≡ 5)
  pub plug_first : IsBetween 1 entry.plug_first 10000
  pub plug_step : IsBetween 1 entry.plug_step 10000
  pub plug_count : IsBetween 1 entry.plug_count 64
  pub dial_first : IsBetween 1 entry.dial_first 15000
  pub dial_step : IsBetween 1 entry.dial_step 15000
  pub dial_count : IsBetween 1 entry.dial_count 4000
  pub load_amps : IsBetween 0 entry.load_amps 100000
  pub least_ms : IsBetween 0 entry.least_ms 100000
  pub most_ms : IsBetween 0 entry.most_ms 20000000

-- a relay as a file of the format gives it: before format 2 it has no least and no greatest time, and before format 4
-- its curve has no constants of its own
pub record RelaySuits (format : ℕ) (entry : RelayEntry) : Type 0 where
  pub keeps : RelayKeeps entry
  pub no_times : format < 2 → (entry.least_ms ≡ 0) × (entry.most_ms ≡ 0)
  pub named : format < 4 → is_custom entry.curve ≡ false

-- a fault's weight is within its limit
abbrev pub FaultKeeps : FaultEntry → Type 0
FaultKeeps entry = IsBetween 1 entry.weight 1000

-- an exempt pair has no numbers
abbrev pub ExemptKeeps : ExemptEntry → Type 0
ExemptKeeps entry = Unit {0}

-- an interval is within its limits
abbrev pub IntervalKeeps : IntervalEntry → Type 0
IntervalKeeps entry = IsBetween 1 entry.cti_ms 10000

-- what is told is within the limits of each table
pub record ToldKeeps (told : ToldData) : Type 0 where
  pub format : IsBetween 1 told.format 4
  pub study : StudyKeeps told.study
  pub line_count : IsBetween 1 (length told.lines) 64
  pub relay_count : IsBetween 1 (length told.relays) 96
  pub relays : All (RelaySuits told.format) told.relays
  pub fault_count : length told.faults ≤ 256
  pub faults : All FaultKeeps told.faults
  pub exempt_count : length told.exempt ≤ 1024
  pub interval_count : length told.intervals ≤ 1024
  pub intervals : All IntervalKeeps told.intervals

-- before format 3 no pair has an interval of its own
abbrev pub IntervalsSuit : ToldData → Type 0
IntervalsSuit told = told.format < 3 → told.intervals ≡ []
