-- The spans of the first box.
use Rattle.std.specs.Prelude.{slice_get, IfSome}
use Rattle.std.proofs.Common.{◌≡◌, ℕ, ◌-◌, ◌<◌, ◌↔◌, inl, inr, List, length, Some, None, Option, arith, sym, ap, ◌∙◌}
use Rattle.std.proofs.lemmas.Bool.{cases_lt}
use Rattle.std.proofs.lemmas.List.{ext_get_or}
use Rattle.coord_model.specs.Allowed.{IsSensible}
use Rattle.coord_model.specs.PartLimits.{FitsRelay}
use Rattle.margin_rows.specs.Box.{Box, IsEmpty, IsIn, FitsBox, IsFirstBox, IsDialStep, no_steps}
use Rattle.margin_rows.specs.Case.{Case, FitsCase}
use Rattle.margin_rows.specs.FirstBox.{IsFirstStep}
use Rattle.margin_rows.specs.Within.{span_of}
use Rattle.margin_rows.specs.declared.span.Steps.{Steps}
use Rattle.margin_rows.proofs.Places.{some_and}
use Rattle.margin_rows.proofs.Timed.{at_place}
use Rattle.margin_rows.proofs.Within.{same_spans, some_each}

-- a pickup step of the first box lies below the limit on steps
pub first_step_small : (case : Case) (relay step : ℕ) → FitsCase case → IsFirstStep case relay step → step < 64
first_step_small case relay step fits first =
    let found = some_and (slice_get case.study.relays relay) (λ r. (step < r.plug_count) × IsSensible case.study case.currents relay r step) first in
    let relay_fits = at_place (FitsRelay case.study) case.study.relays relay found.0 fits.study.relays found.1 in
    omega (arith, found.2.0, relay_fits.plug_count.at_most)

-- the first box fits
pub first_box_fits : (case : Case) (box : Box) → IsFirstBox case box → FitsBox case box
first_box_fits case box first = record {
  pickups = first.pickups;
  dials = first.dials;
  pickup = λ i step. only (IsFirstStep case i step) step (slice_get box.pickup i) (first.pickup i step);
  dial = λ i step. only (IsDialStep case i step) step (slice_get box.dial i) (first.dial i step);
}
  where
    only : (P : Type 0) (step : ℕ) (o : Option Steps) → IfSome o (λ span. IsIn span step ↔ P) → IfSome o (λ span. IsIn span step → P)
    only P step None fact = tt
    only P step (Some span) fact = fact.0

-- spans of the same steps are one, where one without a step is from 0 to 0
same_steps : (s t : Steps) → ((step : ℕ) → IsIn s step ↔ IsIn t step) → (IsEmpty s → s ≡ no_steps) → (IsEmpty t → t ≡ no_steps) → s ≡ t
same_steps s t both none_s none_t = elim (cases_lt s.low s.past) [
  | inr empty ↦ elim (cases_lt t.low t.past) [
    | inr empty_too ↦ none_s empty ∙ sym (none_t empty_too)
    | inl some ↦ let first = (both t.low).1 (record { from = omega arith; before = some }) in absurd (omega (arith, empty, first.from, first.before))
  ]
  | inl some ↦
      let first = (both s.low).0 (record { from = omega arith; before = some }) in
      let last = (both (s.past - 1)).0 (record { from = omega (arith, some); before = omega (arith, some) }) in
      let first_too = (both t.low).1 (record { from = omega arith; before = omega (arith, first.from, first.before) }) in
      let last_too = (both (t.past - 1)).1 (record { from = omega (arith, first.from, first.before); before = omega (arith, first.from, first.before) }) in
      same_spans s t (omega (arith, first.from, first_too.from)) (omega (arith, some, last.before, last_too.before, first.from, first.before))
]

-- lists of such spans, each of the steps that have a property
same_lists : (P : ℕ → ℕ → Type 0) (a b : List Steps) → length a ≡ length b
    → ((i step : ℕ) → IfSome (slice_get a i) (λ span. IsIn span step ↔ P i step)) → ((i step : ℕ) → IfSome (slice_get b i) (λ span. IsIn span step ↔ P i step))
    → ((i : ℕ) → IfSome (slice_get a i) (λ span. IsEmpty span → span ≡ no_steps)) → ((i : ℕ) → IfSome (slice_get b i) (λ span. IsEmpty span → span ≡ no_steps)) → a ≡ b
same_lists P a b count of_a of_b none_a none_b = ext_get_or no_steps a b count (λ i below.
    let below_too : i < length b = omega (arith, below, count) in
    same_steps (span_of a i) (span_of b i)
    (λ step.
    let here = some_each a (λ k span. IsIn span step ↔ P k step) no_steps (λ k. of_a k step) i below in
    let there = some_each b (λ k span. IsIn span step ↔ P k step) no_steps (λ k. of_b k step) i below_too in
    (λ is. there.1 (here.0 is), λ is. here.1 (there.0 is)))
    (some_each a (λ k span. IsEmpty span → span ≡ no_steps) no_steps none_a i below)
    (some_each b (λ k span. IsEmpty span → span ≡ no_steps) no_steps none_b i below_too))

-- there is one first box
pub first_box_only : (case : Case) (a b : Box) → IsFirstBox case a → IsFirstBox case b → a ≡ b
first_box_only case a b one other =
    ap (λ (spans : List Steps). record { pickup = spans; dial = a.dial }) (same_lists (IsFirstStep case) a.pickup b.pickup (one.pickups ∙ sym other.pickups) one.pickup other.pickup one.no_pickup other.no_pickup)
    ∙ ap (λ (spans : List Steps). record { pickup = b.pickup; dial = spans }) (same_lists (IsDialStep case) a.dial b.dial (one.dials ∙ sym other.dials) one.dial other.dial one.no_dial other.no_dial)
