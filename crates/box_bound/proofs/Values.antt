-- A box has one dual value, which is no less than that of a box round it.
use Rattle.std.specs.Prelude.{slice_get, ℤ, ◌+ℤ◌, ◌≤ℤ◌}
use Rattle.std.proofs.Common.{◌≡◌, ℕ, suc, ◌-◌, ◌<◌, List, [], ◌∷◌, length, map, Some, arith, refl, sym, ◌∙◌, inl, inr, subst}
use Rattle.std.proofs.lemmas.Int.{ints}
use Rattle.std.proofs.lemmas.Option.{slice_get_within}
use Rattle.coord_model.specs.Dial.{dial_at_step}
use Rattle.coord_model.specs.declared.weights.Weight.{Weight}
use Rattle.margin_rows.specs.Box.{Box, HasNoEmptySpan, IsIn, no_steps}
use Rattle.margin_rows.specs.Case.{Case}
use Rattle.margin_rows.specs.Within.{IsSpanWithin, IsWithin}
use Rattle.margin_rows.specs.declared.span.Steps.{Steps}
use Rattle.margin_rows.proofs.Dialled.{dial_rises}
use Rattle.margin_rows.proofs.Within.{some_each, within_itself}
use Rattle.box_bound.specs.DualValue.{IsDualValue, total, weighted_constant}
use Rattle.box_bound.specs.RelayParts.{IsEnd, IsLeastPart, dials_of, gain, loss, part, pickups_of}
use Rattle.box_bound.proofs.Duality.{ends_suffice}

-- an end of a span that has a step lies in it
pub end_in : (span : Steps) (step : ℕ) → span.low < span.past → IsEnd span step → IsIn span step
end_in span step some (inl low) = record { from = omega (arith, low); before = omega (arith, low, some) }
end_in span step some (inr last) = record { from = omega (arith, last, some); before = omega (arith, last) }

through : (x y z : ℤ) → x ≤ℤ y → y ≡ z → x ≤ℤ z
through x y z under is = subst (λ (v : ℤ). x ≤ℤ v) is under

module _ (case : Case) (lambda : ℕ) (ws : List Weight) where
  -- the least part over narrower spans is no less
  pub part_rises : (i : ℕ) (pickups dials inner_pickups inner_dials : Steps) (least inner : ℤ) → IsSpanWithin inner_pickups pickups → IsSpanWithin inner_dials dials → inner_dials.low < inner_dials.past
      → IsLeastPart case lambda ws i pickups dials least → IsLeastPart case lambda ws i inner_pickups inner_dials inner → least ≤ℤ inner
  part_rises i pickups dials inner_pickups inner_dials least inner in_pickups in_dials some outer is =
      let s = is.one.0 in
      let d = is.one.1 in
      let inside : IsIn pickups s = record { from = omega (arith, in_pickups.low, is.one.2.from); before = omega (arith, in_pickups.past, is.one.2.before) } in
      let end = end_in inner_dials d some is.one.3 in
      let last : suc (dials.past - 1) ≡ dials.past = omega (arith, in_dials.past, some) in
      let under = ends_suffice (dial_at_step case.study i dials.low) (dial_at_step case.study i d) (dial_at_step case.study i (dials.past - 1)) (gain case lambda ws i s) (loss case ws i s) least
      (dial_rises case.study i dials.low d (omega (arith, in_dials.low, end.from))) (dial_rises case.study i d (dials.past - 1) (omega (arith, in_dials.past, end.before)))
      (outer.none_less s dials.low inside (inl refl)) (outer.none_less s (dials.past - 1) inside (inr last)) in
      through least (part case lambda ws i s d) inner under (sym is.one.4)

-- numbers that are at most others add up to at most theirs
totals_le : (xs ys : List ℤ) → length xs ≡ length ys → ((k : ℕ) (a b : ℤ) → slice_get xs k ≡ Some a → slice_get ys k ≡ Some b → a ≤ℤ b) → total xs ≤ℤ total ys
totals_le [] [] count each = omega (arith, ints)
totals_le [] (b ∷ ys) count each = absurd (omega (arith, count))
totals_le (a ∷ xs) [] count each = absurd (omega (arith, count))
totals_le (a ∷ xs) (b ∷ ys) count each =
    let here = each 0 a b refl refl in
    let others = totals_le xs ys (omega (arith, count)) (λ k x y found there. each (suc k) x y found there) in
    plain a b (total xs) (total ys) here others
  where
    plain : (a b s t : ℤ) → a ≤ℤ b → s ≤ℤ t → (a +ℤ s) ≤ℤ (b +ℤ t)
    plain a b s t one more = omega (arith, ints, one, more)

-- the dual value of a box within another is no less
pub value_rises : (case : Case) (inner outer : Box) (lambda : ℕ) (ws : List Weight) (a b : ℤ) → IsWithin inner outer → HasNoEmptySpan inner → length inner.dial ≡ length case.study.relays
    → IsDualValue case inner lambda ws a → IsDualValue case outer lambda ws b → b ≤ℤ a
value_rises case inner outer lambda ws a b within steps count is other =
    plain a b (total (map (weighted_constant case) ws)) (total is.leasts) (total other.leasts) is.adds_up other.adds_up
    (totals_le other.leasts is.leasts (other.count ∙ sym is.count) each)
  where
    plain : (a b fixed s t : ℤ) → a ≡ fixed +ℤ s → b ≡ fixed +ℤ t → t ≤ℤ s → b ≤ℤ a
    plain a b fixed s t first second under = omega (arith, ints, first, second, under)

    each : (k : ℕ) (x y : ℤ) → slice_get other.leasts k ≡ Some x → slice_get is.leasts k ≡ Some y → x ≤ℤ y
    each k x y found there =
        let below : k < length case.study.relays = omega (arith, slice_get_within is.leasts k y there, is.count) in
        let outer_least : IsLeastPart case lambda ws k (pickups_of outer k) (dials_of outer k) x = rw found at (other.each k below) in
        let inner_least : IsLeastPart case lambda ws k (pickups_of inner k) (dials_of inner k) y = rw there at (is.each k below) in
        part_rises case lambda ws k (pickups_of outer k) (dials_of outer k) (pickups_of inner k) (dials_of inner k) x y (within.pickup.each k) (within.dial.each k)
        (some_each inner.dial (λ i span. span.low < span.past) no_steps steps.dial k (omega (arith, below, count))) outer_least inner_least

-- a box has one dual value
pub value_only : (case : Case) (box : Box) (lambda : ℕ) (ws : List Weight) (a b : ℤ) → HasNoEmptySpan box → length box.dial ≡ length case.study.relays
    → IsDualValue case box lambda ws a → IsDualValue case box lambda ws b → a ≡ b
value_only case box lambda ws a b steps count is other =
    let up = value_rises case box box lambda ws a b (within_itself box) steps count is other in
    let down = value_rises case box box lambda ws b a (within_itself box) steps count other is in
    omega (arith, ints, up, down)
