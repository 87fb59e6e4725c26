-- The dials of the relays.
use Rattle.std.specs.Prelude.{slice_get, slice_index}
use Rattle.std.specs.Option.{option_map_or}
use Rattle.std.proofs.Common.{◌≡◌, ℕ, ◌-◌, ◌*◌, ◌<◌, ◌≤◌, Some, None, Option, arith, length}
use Rattle.std.proofs.Math.Nat.{mul-le-mul_right}
use Rattle.coord_model.specs.Allowed.{AreOnSteps, IsOnSteps}
use Rattle.coord_model.specs.Choice.{Settings}
use Rattle.coord_model.specs.Dial.{dial_at_step}
use Rattle.coord_model.specs.PartLimits.{FitsRelay}
use Rattle.coord_model.specs.StudyData.{StudyData}
use Rattle.coord_model.specs.Time.{dial_at}
use Rattle.coord_model.specs.declared.study.Relay.{Relay}
use Rattle.margin_rows.specs.Box.{IsDialStep}
use Rattle.margin_rows.specs.Case.{Case, FitsCase}
use Rattle.margin_rows.proofs.Placed.{of_some}
use Rattle.margin_rows.proofs.Places.{and_some}
use Rattle.margin_rows.proofs.Timed.{at_place}
use Rattle.margin_rows.proofs.Written.{in_list}

-- a dial is at most the last one, and so at most the limit
pub dial_few : (case : Case) (i step : ℕ) (relay : Relay) → FitsCase case → slice_get case.study.relays i ≡ Some relay → step < relay.dial_count → dial_at relay step ≤ 15000
dial_few case i step relay fits found below =
    let relay_fits = at_place (FitsRelay case.study) case.study.relays i relay fits.study.relays found in
    let few : step ≤ relay.dial_count - 1 = omega arith in
    let rises : step * relay.dial_step ≤ (relay.dial_count - 1) * relay.dial_step = mul-le-mul_right relay.dial_step few in
    omega (arith, rises, relay_fits.last_dial)

-- settings on the steps have a dial step for each relay
pub dial_on_step : (case : Case) (settings : Settings) (i : ℕ) → AreOnSteps case.study settings → i < length case.study.relays → IsDialStep case i (slice_index settings.dial i)
dial_on_step case settings i on_steps below =
    let there = in_list case.study.relays i below in
    let steps = of_some (slice_get case.study.relays i) (λ relay. IsOnSteps relay (slice_index settings.pickup i) (slice_index settings.dial i)) there.0 there.1 (on_steps.steps i) in
    and_some (slice_get case.study.relays i) (λ r. slice_index settings.dial i < r.dial_count) there.0 there.1 steps.dial_step

-- a later dial step has no lower dial
pub dial_rises : (study : StudyData) (i step later : ℕ) → step ≤ later → dial_at_step study i step ≤ dial_at_step study i later
dial_rises study i step later rises = go (slice_get study.relays i)
  where
    go : (o : Option Relay) → option_map_or (λ relay. dial_at relay step) o 0 ≤ option_map_or (λ relay. dial_at relay later) o 0
    go None = omega arith
    go (Some relay) = omega (arith, mul-le-mul_right relay.dial_step rises)
