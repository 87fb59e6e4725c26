-- The least part of a relay, step by step.
use Rattle.std.specs.Prelude.{ℤ, pos, ◌-ℤ◌, ◌≤ℤ◌}
use Rattle.std.specs.Int.{int_min}
use Rattle.std.proofs.Common.{◌≡◌, ℕ, suc, ◌+◌, ◌*◌, ◌^◌, ◌≤◌, ◌⊎◌, inl, inr, Bool, true, false, cond, List, arith, refl, sym, ap, ◌∙◌, subst}
use Rattle.std.proofs.lemmas.Bool.{cases_lt}
use Rattle.std.proofs.lemmas.Int.{ints}
use Rattle.std.proofs.lemmas.Nat.{mul-le}
use Rattle.coord_model.specs.Dial.{dial_at_step}
use Rattle.coord_model.specs.declared.weights.Weight.{Weight}
use Rattle.margin_rows.specs.Box.{IsIn}
use Rattle.margin_rows.specs.Case.{Case}
use Rattle.margin_rows.specs.declared.span.Span.{Span}
use Rattle.margin_rows.specs.declared.span.Steps.{Steps}
use Rattle.box_bound.specs.RelayParts.{IsEnd, IsLeastPart, at_dial, gain, loss, part}
use Rattle.box_bound.specs.Standing.{IsSmall}
use Rattle.box_bound.proofs.Spans.{IsSpanRead}

-- the lesser of two numbers is one of them
picked : (x y r : ℤ) → r ≡ int_min x y → (r ≡ x) ⊎ (r ≡ y)
picked x y r is = go _ is
  where
    go : (b : Bool) → r ≡ cond b y x → (r ≡ x) ⊎ (r ≡ y)
    go true is = inr is
    go false is = inl is

pub picked_small : (x y r : ℤ) → (r ≡ x) ⊎ (r ≡ y) → IsSmall x → IsSmall y → IsSmall r
picked_small x y r (inl is) a b = rw is a
picked_small x y r (inr is) a b = rw is b

pub at_dial_small : (d g l : ℕ) (z : ℤ) → z ≡ at_dial d g l → d ≤ 15000 → g ≤ 2 ^ 92 → l ≤ 2 ^ 92 → IsSmall z
at_dial_small d g l z is dial gained lost =
    plain (d * g) (d * l) z is (mul-le d g 15000 (2 ^ 92) dial gained) (mul-le d l 15000 (2 ^ 92) dial lost)
  where
    plain : (a b : ℕ) (z : ℤ) → z ≡ pos a -ℤ pos b → a ≤ 15000 * 2 ^ 92 → b ≤ 15000 * 2 ^ 92 → IsSmall z
    plain a b z is first second = record { not_low = omega (arith, ints, is, second); not_high = omega (arith, ints, is, first) }

pub part_read : (case : Case) (lambda : ℕ) (ws : List Weight) (i step dial d g l : ℕ) (z : ℤ) → z ≡ at_dial d g l → d ≡ dial_at_step case.study i dial → g ≡ gain case lambda ws i step → l ≡ loss case ws i step
    → z ≡ part case lambda ws i step dial
part_read case lambda ws i step dial d g l z is at gained lost = rw (is, at, gained, lost) refl

-- what is known of the lesser of two numbers
pub record IsLesser (x y r : ℤ) : Type 0 where
  pub first : r ≤ℤ x
  pub second : r ≤ℤ y
  pub one : (r ≡ x) ⊎ (r ≡ y)

-- as the code reads it
pub lesser_read : (x y r x' y' : ℤ) → r ≡ int_min x' y' → r ≤ℤ x' → r ≤ℤ y' → x' ≡ x → y' ≡ y → IsLesser x y r
lesser_read x y r x' y' is first second same other = record {
  first = subst (λ (z : ℤ). r ≤ℤ z) same first;
  second = subst (λ (z : ℤ). r ≤ℤ z) other second;
  one = subst (λ (z : ℤ). (r ≡ z) ⊎ (r ≡ y)) same (subst (λ (z : ℤ). (r ≡ x') ⊎ (r ≡ z)) other (picked x' y' r is));
}

module _ (case : Case) (lambda : ℕ) (ws : List Weight) (i : ℕ) (dials : Steps) where
  -- the lesser of the parts at the two ends of the dials is the least at a pickup step
  pub least_of_ends : {IsStep : ℕ → Type 0} (step : ℕ) (shown : Span) (low high r : ℤ) → IsSpanRead dials shown IsStep → low ≡ part case lambda ws i step shown.lo → high ≡ part case lambda ws i step shown.hi
      → r ≤ℤ low → r ≤ℤ high → (r ≡ low) ⊎ (r ≡ high) → IsLeastPart case lambda ws i (record { low = step; past = step + 1 }) dials r
  least_of_ends step shown low high r read low_is high_is under_low under_high one = record { none_less = none; one = this one }
    where
      at : (s d e : ℕ) (z : ℤ) → s ≡ step → d ≡ e → z ≡ part case lambda ws i step e → r ≤ℤ z → r ≤ℤ part case lambda ws i s d
      at s d e z same_step same_dial is under = rw (same_step, same_dial) (subst (λ (y : ℤ). r ≤ℤ y) is under)

      none : (s d : ℕ) → IsIn (record { low = step; past = step + 1 }) s → IsEnd dials d → r ≤ℤ part case lambda ws i s d
      none s d inside (inl first) = at s d shown.lo low (omega (arith, inside.from, inside.before)) (first ∙ sym read.low) low_is under_low
      none s d inside (inr last) = at s d shown.hi high (omega (arith, inside.from, inside.before)) (omega (arith, last, read.past)) high_is under_high

      this : (r ≡ low) ⊎ (r ≡ high)
          → (s : ℕ) × (d : ℕ) × IsIn (record { low = step; past = step + 1 }) s × IsEnd dials d × (r ≡ part case lambda ws i s d)
      this (inl is) = (step, shown.lo, record { from = omega arith; before = omega arith }, inl read.low, is ∙ low_is)
      this (inr is) = (step, shown.hi, record { from = omega arith; before = omega arith }, inr read.past, is ∙ high_is)

  -- one step more
  pub least_more : (low step : ℕ) (least here r : ℤ) → low ≤ step → IsLeastPart case lambda ws i (record { low = low; past = step }) dials least
      → IsLeastPart case lambda ws i (record { low = step; past = step + 1 }) dials here → r ≤ℤ least → r ≤ℤ here → (r ≡ least) ⊎ (r ≡ here)
      → IsLeastPart case lambda ws i (record { low = low; past = step + 1 }) dials r
  least_more low step least here r ordered before now under_least under_here one = record { none_less = none; one = this one }
    where
      through : (x y z : ℤ) → x ≤ℤ y → y ≤ℤ z → x ≤ℤ z
      through x y z a b = omega (arith, ints, a, b)

      none : (s d : ℕ) → IsIn (record { low = low; past = step + 1 }) s → IsEnd dials d → r ≤ℤ part case lambda ws i s d
      none s d inside end = elim (cases_lt s step) [
        | inl below ↦ through r least _ under_least (before.none_less s d (record { from = inside.from; before = below }) end)
        | inr past ↦ through r here _ under_here (now.none_less s d (record { from = past; before = inside.before }) end)
      ]

      this : (r ≡ least) ⊎ (r ≡ here)
          → (s : ℕ) × (d : ℕ) × IsIn (record { low = low; past = step + 1 }) s × IsEnd dials d × (r ≡ part case lambda ws i s d)
      this (inl is) = let o = before.one in (o.0, o.1, record { from = o.2.from; before = omega (arith, o.2.before) }, o.3, is ∙ o.4)
      this (inr is) = let o = now.one in (o.0, o.1, record { from = omega (arith, o.2.from, ordered); before = o.2.before }, o.3, is ∙ o.4)

  -- over the whole span
  pub least_whole : {IsStep : ℕ → Type 0} (pickups : Steps) (shown : Span) (past : ℕ) (r : ℤ) → IsSpanRead pickups shown IsStep → past ≡ suc shown.hi
      → IsLeastPart case lambda ws i (record { low = pickups.low; past = past }) dials r → IsLeastPart case lambda ws i pickups dials r
  least_whole pickups shown past r read end is =
      let same : record { low = pickups.low; past = past } ≡ pickups = ap (λ (n : ℕ). record { low = pickups.low; past = n }) (end ∙ read.past) in
      subst (λ (s : Steps). IsLeastPart case lambda ws i s dials r) same is
