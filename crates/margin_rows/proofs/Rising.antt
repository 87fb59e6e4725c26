-- As a relay's pickup step rises its multiple of pickup falls, and its time does not.
use Rattle.std.specs.Prelude.{slice_get}
use Rattle.std.proofs.Common.{◌≡◌, ℕ, ◌*◌, ◌<◌, ◌≤◌, Bool, true, false, cond, leb, Some, arith, refl}
use Rattle.std.proofs.Math.Nat.{mul-le-mul_left, mul-le-mul_right, mul-lt-mul_of_pos_left}
use Rattle.std.proofs.lemmas.Bool.{leb-true, leb-false}
use Rattle.coord_model.specs.Allowed.{Senses}
use Rattle.coord_model.specs.Enclosure.{IsAtMost, IsNotAbove}
use Rattle.coord_model.specs.PartLimits.{FitsRelay}
use Rattle.coord_model.specs.Rows.{amps_at}
use Rattle.coord_model.specs.Time.{Multiple, sensed_multiple, capped}
use Rattle.coord_model.specs.declared.study.Relay.{Relay}
use Rattle.margin_rows.specs.Case.{Case, FitsCase}
use Rattle.margin_rows.specs.Reach.{IsTimed}
use Rattle.margin_rows.specs.Times.{time_at}
use Rattle.margin_rows.proofs.Curves.{time_falls}
use Rattle.margin_rows.proofs.Multiples.{plug_rises, multiple_small, sensed_enclosable}
use Rattle.margin_rows.proofs.Places.{some_and}
use Rattle.margin_rows.proofs.Timed.{IsTimedAt, amps_few, at_place, steps_there, time_found}

-- the multiple of a later step is at most that of an earlier one
multiple_falls : (relay : Relay) (step later amps : ℕ) → step ≤ later → IsAtMost (sensed_multiple relay later amps) (sensed_multiple relay step amps)
multiple_falls relay step later amps below =
    mul-le-mul_left (100 * amps * relay.ct_secondary) (mul-le-mul_right relay.ct_primary (plug_rises relay step later below))

-- a multiple below the cap is not above one that reaches it
below_reached : (cap n d n' d' : ℕ) → 1 ≤ d → cap * d ≤ n → n' < cap * d' → n * d' ≤ n' * d → ⊥
below_reached cap n d n' d' some reaches below grows =
    let past : d * n' < d * (cap * d') = mul-lt-mul_of_pos_left {k = d} below some in
    let far : cap * d * d' ≤ n * d' = mul-le-mul_right d' reaches in
    omega (arith, past, far, grows)

-- the cap keeps the order
capped_cases : (cap : ℕ) (m m' : Multiple) (b b' : Bool) → leb (cap * m.den) m.num ≡ b → leb (cap * m'.den) m'.num ≡ b' → 1 ≤ m.den → IsAtMost m m'
    → IsAtMost (cond b (record { num = cap; den = 1 }) m) (cond b' (record { num = cap; den = 1 }) m')
capped_cases cap m m' true true is is' some grows = omega arith
capped_cases cap m m' true false is is' some grows =
    absurd (below_reached cap m.num m.den m'.num m'.den some (leb-true (cap * m.den) m.num is) (leb-false (cap * m'.den) m'.num is') grows)
capped_cases cap m m' false true is is' some grows = omega (arith, leb-false (cap * m.den) m.num is)
capped_cases cap m m' false false is is' some grows = grows

capped_at_most : (cap : ℕ) (m m' : Multiple) → 1 ≤ m.den → IsAtMost m m' → IsAtMost (capped cap m) (capped cap m')
capped_at_most cap m m' some grows = capped_cases cap m m' (leb (cap * m.den) m.num) (leb (cap * m'.den) m'.num) refl refl some grows

-- a step that senses the current, with its relay
pub timed_at : (case : Case) (f i step : ℕ) → IsTimed case f i step → IsTimedAt case f i step
timed_at case f i step timed =
    let found = some_and (slice_get case.study.relays i) (λ r. Senses case.study r step (amps_at case.currents f i)) timed.1 in
    let steps = steps_there case i found.0 found.1 in
    record { relay = found.0; found = found.1; below = omega (arith, timed.0, steps); senses = found.2 }

-- neither does the time of a relay
pub relay_falls : (case : Case) (f i step later : ℕ) (relay : Relay) → FitsCase case → slice_get case.study.relays i ≡ Some relay
    → step < relay.plug_count → Senses case.study relay step (amps_at case.currents f i)
    → later < relay.plug_count → Senses case.study relay later (amps_at case.currents f i)
    → step ≤ later → IsNotAbove (time_at case f i step) (time_at case f i later)
relay_falls case f i step later relay fits found below senses later_below later_senses rises =
    let amps = amps_at case.currents f i in
    let relay_fits = at_place (FitsRelay case.study) case.study.relays i relay fits.study.relays found in
    let few = amps_few case.study case.currents f i fits.currents.each in
    let early = sensed_enclosable case.study relay step amps fits.study relay_fits below few senses in
    let late = sensed_enclosable case.study relay later amps fits.study relay_fits later_below few later_senses in
    rw (time_found case f i step relay found, time_found case f i later relay found)
    (time_falls relay.curve (capped case.study.cap (sensed_multiple relay later amps)) (capped case.study.cap (sensed_multiple relay step amps)) relay_fits.curve late early
    (capped_at_most case.study.cap (sensed_multiple relay later amps) (sensed_multiple relay step amps) (multiple_small case.study relay later amps relay_fits later_below few).some (multiple_falls relay step later amps rises)))
