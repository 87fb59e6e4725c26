-- What the operating times of a case keep, for this crate and those above: by the pickup steps that sense the current.
use Rattle.std.specs.Prelude.{slice_get}
use Rattle.std.proofs.Common.{◌≡◌, ℕ, ◌<◌, ◌≤◌, Some, arith, sym, ◌∙◌, subst}
use Rattle.coord_model.specs.Allowed.{IsUsed, Senses}
use Rattle.coord_model.specs.Enclosure.{IsNotAbove}
use Rattle.coord_model.specs.Rows.{amps_at}
use Rattle.coord_model.specs.declared.study.Relay.{Relay}
use Rattle.margin_rows.specs.Case.{Case, FitsCase}
use Rattle.margin_rows.specs.FirstBox.{IsFirstStep}
use Rattle.margin_rows.specs.Reach.{IsTimed}
use Rattle.margin_rows.specs.Times.{time_at, IsOrdinary}
use Rattle.margin_rows.proofs.Boxed.{first_is_timed}
use Rattle.margin_rows.proofs.Places.{and_some}
use Rattle.margin_rows.proofs.Rising.{timed_at, relay_falls}
use Rattle.margin_rows.proofs.Timed.{enclosed, steps_there}

-- a pickup step of the first box senses the relay's current at each fault where the relay is used
pub first_step_senses : (case : Case) (f i step : ℕ) → IsUsed case.study case.currents f i → IsFirstStep case i step → IsTimed case f i step
first_step_senses case f i step used first =
    let timed = first_is_timed case f i step used first in
    let steps = steps_there case i timed.relay timed.found in
    (omega (arith, timed.below, steps), and_some (slice_get case.study.relays i) (λ r. Senses case.study r step (amps_at case.currents f i)) timed.relay timed.found timed.senses)

-- a sensed time is above 0, with its ends in order and below 2^40
pub sensed_time_is_ordinary : (case : Case) (f i step : ℕ) → FitsCase case → IsTimed case f i step → IsOrdinary (time_at case f i step)
sensed_time_is_ordinary case f i step fits timed = (enclosed case f i step fits.study fits.currents (timed_at case f i step timed)).ordinary

-- neither end of a sensed time falls as the pickup step rises
pub sensed_time_never_falls : (case : Case) (f i step later : ℕ) → FitsCase case → IsTimed case f i step → IsTimed case f i later → step ≤ later
    → IsNotAbove (time_at case f i step) (time_at case f i later)
sensed_time_never_falls case f i step later fits timed later_timed rises =
    let first = timed_at case f i step timed in
    let second = timed_at case f i later later_timed in
    let same : second.relay ≡ first.relay = same_some _ _ (sym second.found ∙ first.found) in
    let P : Relay → Type 0 = λ r. (later < r.plug_count) × Senses case.study r later (amps_at case.currents f i) in
    let there = subst P same (second.below, second.senses) in
    relay_falls case f i step later first.relay fits first.found first.below first.senses there.0 there.1 rises
  where
    same_some : (x y : Relay) → Some x ≡ Some y → x ≡ y
    same_some x y e = cc
