-- Each box without an empty span has a dual value.
use Rattle.std.specs.Prelude.{ℤ, pos, negsuc, ◌+ℤ◌, ◌≤ℤ◌}
use Rattle.std.proofs.Common.{◌≡◌, ℕ, zero, suc, ◌+◌, ◌-◌, ◌<◌, ◌⊎◌, inl, inr, List, length, arith, refl, subst}
use Rattle.std.proofs.lemmas.Bool.{cases_lt}
use Rattle.std.proofs.lemmas.Int.{ints}
use Rattle.coord_model.specs.declared.weights.Weight.{Weight}
use Rattle.margin_rows.specs.Box.{Box, HasNoEmptySpan, no_steps}
use Rattle.margin_rows.specs.Case.{Case}
use Rattle.margin_rows.specs.declared.span.Span.{Span}
use Rattle.margin_rows.specs.declared.span.Steps.{Steps}
use Rattle.margin_rows.proofs.Within.{some_each}
use Rattle.box_bound.specs.DualValue.{IsDualValue}
use Rattle.box_bound.specs.RelayParts.{IsLeastPart, dials_of, part, pickups_of}
use Rattle.box_bound.proofs.Leasts.{least_more, least_of_ends}
use Rattle.box_bound.proofs.Spans.{IsSpanRead}
use Rattle.box_bound.proofs.Totals.{IsSumOf, no_sum, sum_all, sum_more}

-- the lesser of two numbers
record HasLesser (x y : ℤ) : Type 0 where
  pub lesser : ℤ
  pub first : lesser ≤ℤ x
  pub second : lesser ≤ℤ y
  pub one : (lesser ≡ x) ⊎ (lesser ≡ y)

ordered : (x y : ℤ) → (x ≤ℤ y) ⊎ (y ≤ℤ x)
ordered (pos a) (pos b) = elim (cases_lt a b) [ inl under ↦ inl (omega (arith, ints, under)) | inr over ↦ inr (omega (arith, ints, over)) ]
ordered (pos a) (negsuc b) = inr (omega (arith, ints))
ordered (negsuc a) (pos b) = inl (omega (arith, ints))
ordered (negsuc a) (negsuc b) = elim (cases_lt a b) [ inl under ↦ inr (omega (arith, ints, under)) | inr over ↦ inl (omega (arith, ints, over)) ]

lesser_of : (x y : ℤ) → HasLesser x y
lesser_of x y = elim (ordered x y) [
  | inl under ↦ record { lesser = x; first = omega (arith, ints); second = under; one = inl refl }
  | inr over ↦ record { lesser = y; first = over; second = omega (arith, ints); one = inr refl }
]

module _ (case : Case) (lambda : ℕ) (ws : List Weight) where
  -- the least part of a relay at a pickup step
  least_at : (i step : ℕ) (dials : Steps) → dials.low < dials.past → (least : ℤ) × IsLeastPart case lambda ws i (record { low = step; past = step + 1 }) dials least
  least_at i step dials some =
      let shown : Span = record { lo = dials.low; hi = dials.past - 1 } in
      let l = lesser_of (part case lambda ws i step shown.lo) (part case lambda ws i step shown.hi) in
      let read : IsSpanRead dials shown (λ (s : ℕ). s ≡ s) = record { low = refl; past = omega (arith, some); some = some; steps = λ s inside. refl } in
      (l.lesser, least_of_ends case lambda ws i dials step shown (part case lambda ws i step shown.lo) (part case lambda ws i step shown.hi) l.lesser read refl refl l.first l.second l.one)

  -- and over the pickup steps of a span
  least_over : (i low more : ℕ) (dials : Steps) → dials.low < dials.past
      → (least : ℤ) × IsLeastPart case lambda ws i (record { low = low; past = low + suc more }) dials least
  least_over i low zero dials some = least_at i low dials some
  least_over i low (suc more) dials some =
      let before = least_over i low more dials some in
      let here = least_at i (low + suc more) dials some in
      let l = lesser_of before.0 here.0 in
      let now = least_more case lambda ws i dials low (low + suc more) before.0 here.0 l.lesser (omega arith) before.1 here.1 l.first l.second l.one in
      let P : ℕ → Type 0 = λ past. IsLeastPart case lambda ws i (record { low = low; past = past }) dials l.lesser in
      (l.lesser, subst P (omega arith) now)

  least_of_span : (i : ℕ) (pickups dials : Steps) → pickups.low < pickups.past → dials.low < dials.past → (least : ℤ) × IsLeastPart case lambda ws i pickups dials least
  least_of_span i pickups dials step some =
      let found = least_over i pickups.low (pickups.past - suc pickups.low) dials some in
      let P : ℕ → Type 0 = λ past. IsLeastPart case lambda ws i (record { low = pickups.low; past = past }) dials found.0 in
      (found.0, subst P (omega (arith, step)) found.1)

  sum_of : (box : Box) (n : ℕ) → ((i : ℕ) → i < n → (least : ℤ) × IsLeastPart case lambda ws i (pickups_of box i) (dials_of box i) least) → (sum : ℤ) × IsSumOf case box lambda ws n sum
  sum_of box zero each = (_, no_sum case box lambda ws _ refl)
  sum_of box (suc n) each =
      let before = sum_of box n (λ i below. each i (omega (arith, below))) in
      let here = each n (omega arith) in
      let P : ℕ → Type 0 = λ k. IsSumOf case box lambda ws k (before.0 +ℤ here.0) in
      (before.0 +ℤ here.0, subst P (omega arith) (sum_more case box lambda ws n before.0 here.0 before.1 here.1))

  -- a box with a step in each span has a dual value
  pub dual_value_of : (box : Box) → length box.pickup ≡ length case.study.relays → length box.dial ≡ length case.study.relays → HasNoEmptySpan box → (value : ℤ) × IsDualValue case box lambda ws value
  dual_value_of box pickups dials steps =
      let sum = sum_of box (length case.study.relays) (λ i below. least_of_span i (pickups_of box i) (dials_of box i)
      (some_each box.pickup (λ i span. span.low < span.past) no_steps steps.pickup i (omega (arith, below, pickups)))
      (some_each box.dial (λ i span. span.low < span.past) no_steps steps.dial i (omega (arith, below, dials)))) in
      (sum.0, sum_all case box lambda ws (length case.study.relays) sum.0 refl sum.1)
