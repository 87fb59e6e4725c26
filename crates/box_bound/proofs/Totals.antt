-- The sum of the relays' least parts, relay by relay.
use Rattle.std.specs.Prelude.{slice_get, ℤ, pos, ◌+ℤ◌, ◌≤ℤ◌}
use Rattle.std.specs.Option.{IsSomeAnd}
use Rattle.std.proofs.Common.{◌≡◌, ℕ, ◌+◌, ◌*◌, ◌^◌, ◌<◌, ◌≤◌, List, [], ◌∷◌, ◌++◌, length, map, arith, refl, ◌∙◌}
use Rattle.std.proofs.lemmas.Int.{ints}
use Rattle.std.proofs.lemmas.List.{length_push}
use mir.Syntax.{w128}
use mir.Val.{SFits}
use Rattle.coord_model.specs.declared.weights.Weight.{Weight}
use Rattle.margin_rows.specs.Box.{Box}
use Rattle.margin_rows.specs.Case.{Case}
use Rattle.margin_rows.proofs.Places.{each_push}
use Rattle.box_bound.specs.DualValue.{IsDualValue, total, weighted_constant}
use Rattle.box_bound.specs.RelayParts.{IsLeastPart, dials_of, pickups_of}
use Rattle.box_bound.specs.Standing.{IsSmall}

-- the interval by the weights, and the least parts of the first n relays
pub record IsSumOf (case : Case) (box : Box) (lambda : ℕ) (weights : List Weight) (n : ℕ) (sum : ℤ) : Type 0 where
  pub leasts : List ℤ
  pub count : length leasts ≡ n
  pub each : (i : ℕ) → i < n → IsSomeAnd (slice_get leasts i) (IsLeastPart case lambda weights i (pickups_of box i) (dials_of box i))
  pub adds_up : sum ≡ total (map (weighted_constant case) weights) +ℤ total leasts

-- one number more
pub total_push : (zs : List ℤ) (z : ℤ) → total (zs ++ z ∷ []) ≡ total zs +ℤ z
total_push [] z = omega (arith, ints)
total_push (y ∷ zs) z = let others = total_push zs z in omega (arith, ints, others)

pub no_sum : (case : Case) (box : Box) (lambda : ℕ) (weights : List Weight) (sum : ℤ) → sum ≡ total (map (weighted_constant case) weights) → IsSumOf case box lambda weights 0 sum
no_sum case box lambda weights sum is = record { leasts = []; count = refl; each = λ i below. absurd (omega (arith, below)); adds_up = omega (arith, ints, is) }

pub sum_more : (case : Case) (box : Box) (lambda : ℕ) (weights : List Weight) (n : ℕ) (sum least : ℤ) → IsSumOf case box lambda weights n sum
    → IsLeastPart case lambda weights n (pickups_of box n) (dials_of box n) least → IsSumOf case box lambda weights (n + 1) (sum +ℤ least)
sum_more case box lambda weights n sum least so_far here = record {
  leasts = so_far.leasts ++ least ∷ [];
  count = omega (arith, length_push so_far.leasts least, so_far.count);
  each = each_push (λ i. IsLeastPart case lambda weights i (pickups_of box i) (dials_of box i)) so_far.leasts (so_far.leasts ++ least ∷ []) least n so_far.count refl so_far.each here;
  adds_up = plain sum least (total (map (weighted_constant case) weights)) (total so_far.leasts) (total (so_far.leasts ++ least ∷ [])) so_far.adds_up (total_push so_far.leasts least);
}
  where
    plain : (s l f t u : ℤ) → s ≡ f +ℤ t → u ≡ t +ℤ l → s +ℤ l ≡ f +ℤ u
    plain s l f t u a b = omega (arith, ints, a, b)

pub sum_all : (case : Case) (box : Box) (lambda : ℕ) (weights : List Weight) (n : ℕ) (sum : ℤ) → n ≡ length case.study.relays → IsSumOf case box lambda weights n sum → IsDualValue case box lambda weights sum
sum_all case box lambda weights n sum is so_far = record {
  leasts = so_far.leasts;
  count = so_far.count ∙ is;
  each = λ i below. so_far.each i (omega (arith, below, is));
  adds_up = so_far.adds_up;
}

-- how far a sum of n parts lies from 0
pub record IsNear (n : ℕ) (z : ℤ) : Type 0 where
  pub not_low : pos 0 ≤ℤ (z +ℤ pos (2 ^ 93 + n * 2 ^ 106))
  pub not_high : z ≤ℤ pos (2 ^ 93 + n * 2 ^ 106)

pub near_more : (n : ℕ) (z least : ℤ) → IsNear n z → IsSmall least → IsNear (n + 1) (z +ℤ least)
near_more n z least near small = record {
  not_low = omega (arith, ints, near.not_low, small.not_low);
  not_high = omega (arith, ints, near.not_high, small.not_high);
}

pub near_fits : (n : ℕ) (z : ℤ) → n ≤ 65536 → IsNear n z → SFits w128 z
near_fits n z few near =
    let low = near.not_low in
    let high = near.not_high in
    search (arith, ints)
