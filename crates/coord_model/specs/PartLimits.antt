-- The limits of a study's lines, curves, relays, faults, exempt pairs and intervals, and that their numbers name what is there (ours).
use Rattle.std.specs.Prelude.{◌≡◌, ◌≢◌, ⊤, ℕ, ◌-◌, ◌<◌, ◌≤◌, ◌⊎◌, length, IsTrue, slice_get}
use Rattle.coord_model.specs.CustomForm.{IsCustomForm}
use Rattle.coord_model.specs.Form.{form_with}
use Rattle.coord_model.specs.Pairs.{ends_at}
use Rattle.coord_model.specs.StudyData.{StudyData}
use Rattle.coord_model.specs.Time.{plug_at, dial_at}
use Rattle.coord_model.specs.declared.curve.CurveName.{CurveName}
use Rattle.coord_model.specs.declared.curve.CurveName.TheVariants.{IecA, IecB, IecC, IeeeMi, IeeeVi, IeeeEi, Custom}
use Rattle.coord_model.specs.declared.study.Exempt.{Exempt}
use Rattle.coord_model.specs.declared.study.Fault.{Fault}
use Rattle.coord_model.specs.declared.study.Line.{Line}
use Rattle.coord_model.specs.declared.study.PairInterval.{PairInterval}
use Rattle.coord_model.specs.declared.study.Relay.{Relay}

-- the number lies from low to high
pub record IsBetween (low n high : ℕ) : Type 0 where
  pub at_least : low ≤ n
  pub at_most : n ≤ high

-- a custom curve has constants that such a curve may have
abbrev pub FitsCurve : CurveName → Type 0
FitsCurve IecA = ⊤
FitsCurve IecB = ⊤
FitsCurve IecC = ⊤
FitsCurve IeeeMi = ⊤
FitsCurve IeeeVi = ⊤
FitsCurve IeeeEi = ⊤
FitsCurve (Custom k4 c4 e h) = IsCustomForm (form_with k4 c4 e h)

-- the line joins two different buses of the study
pub record FitsLine (study : StudyData) (line : Line) : Type 0 where
  pub from : line.from < length study.buses
  pub to : line.to < length study.buses
  pub no_loop : line.from ≢ line.to

-- the relay stands at an end of a line of the study, and its numbers are within the limits
pub record FitsRelay (study : StudyData) (relay : Relay) : Type 0 where
  pub on_line : relay.line < length study.lines
  pub at_end : IsTrue (ends_at (slice_get study.lines relay.line) relay.bus)
  pub curve : FitsCurve relay.curve
  pub ct_primary : IsBetween 1 relay.ct_primary 10000
  pub ct_secondary : (relay.ct_secondary ≡ 1) ⊎ (relay.ct_secondary ≡ 5)
  pub plug_first : IsBetween 1 relay.plug_first 10000
  pub plug_step : IsBetween 1 relay.plug_step 10000
  pub plug_count : IsBetween 1 relay.plug_count 64
  pub last_plug : plug_at relay (relay.plug_count - 1) ≤ 10000
  pub dial_first : IsBetween 1 relay.dial_first 15000
  pub dial_step : IsBetween 1 relay.dial_step 15000
  pub dial_count : IsBetween 1 relay.dial_count 4000
  pub last_dial : dial_at relay (relay.dial_count - 1) ≤ 15000
  pub load_amps : relay.load_amps ≤ 100000
  pub least_ms : relay.least_ms ≤ 100000
  pub most_ms : relay.most_ms ≤ 20000000

-- the fault lies on a line of the study
pub record FitsFault (study : StudyData) (fault : Fault) : Type 0 where
  pub on_line : fault.line < length study.lines
  pub weight : IsBetween 1 fault.weight 1000

-- the exempt pair names relays of the study
pub record FitsExempt (study : StudyData) (exempt : Exempt) : Type 0 where
  pub backup : exempt.backup < length study.relays
  pub primary : exempt.primary < length study.relays

-- the interval is that of two relays of the study, within the limits
pub record FitsInterval (study : StudyData) (own : PairInterval) : Type 0 where
  pub backup : own.backup < length study.relays
  pub primary : own.primary < length study.relays
  pub cti_ms : IsBetween 1 own.cti_ms 10000
