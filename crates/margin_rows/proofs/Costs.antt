-- The cost of settings from the ends of the enclosures, against every estimate.
use Rattle.std.proofs.Common.{ℕ, ◌+◌, ◌*◌, ◌^◌, ◌/◌, ◌≤◌, List, [], ◌∷◌, arith}
use Rattle.std.specs.Prelude.{slice_index}
use Rattle.std.specs.List.{sum_by, All}
use Rattle.std.specs.Int.{div_ceil}
use Rattle.std.proofs.Math.Nat.{mul-le-mul_left, mul-le-mul_right}
use Rattle.std.proofs.lemmas.List.Elements.{All-head, All-tail}
use Rattle.std.proofs.lemmas.List.Sums.{sum_by-cons}
use Rattle.coord_model.specs.Choice.{Settings}
use Rattle.coord_model.proofs.Quotients.{floor_within, ceil_covers}
use Rattle.coord_model.specs.Cost.{CostsAtLeast, CostsAtMost, weight_of, weighted_sum}
use Rattle.coord_model.specs.Dial.{dial_of}
use Rattle.margin_rows.specs.Case.{Case, terms_in}
use Rattle.margin_rows.specs.Margin.{time_of}
use Rattle.margin_rows.specs.Price.{cost_of, lower_cost_of, greatest_sum, least_sum}
use Rattle.margin_rows.proofs.Kept.{over_least, under_most}
use Rattle.margin_rows.proofs.Timed.{IsEnclosed}

-- sums are in the order of their parts
pub sums_le : {X : Type 0} (f g : X → ℕ) (a b : ℕ) (xs : List X) → All (λ x. f x * a ≤ g x * b) xs → sum_by f xs * a ≤ sum_by g xs * b
sums_le f g a b [] each = omega arith
sums_le f g a b (x ∷ xs) each =
    let P = λ (w : _). f w * a ≤ g w * b in
    let first = All-head P x xs each in
    let others = sums_le f g a b xs (All-tail P x xs each) in
    rw (sum_by-cons f x xs, sum_by-cons g x xs) (plain (f x) (sum_by f xs) (g x) (sum_by g xs) a b first others)
  where
    plain : (u v y z a b : ℕ) → u * a ≤ y * b → v * a ≤ z * b → (u + v) * a ≤ (y + z) * b
    plain u v y z a b first others = omega (arith, first, others)

-- the times of all terms are enclosed
abbrev pub AreSet : Case → Settings → Type 0
AreSet case settings = All (λ term. IsEnclosed case term.fault term.relay (slice_index settings.pickup term.relay)) (terms_in case)

weighted : (w d u n q a : ℕ) → u * a ≤ n * q → (w * d * u) * a ≤ (w * d * n) * q
weighted w d u n q a small = omega (arith, mul-le-mul_left (w * d) small)

-- the settings cost at least the cost from the lower ends
pub costs_at_least : (case : Case) (settings : Settings) → AreSet case settings → CostsAtLeast case.study case.currents settings (lower_cost_of case settings)
unfolding lower_cost_of
costs_at_least case settings set q n some over =
    let each : All (λ term. (weight_of case.study term.fault * dial_of case.study settings term.relay * (time_of case settings term.fault term.relay).lower) * q
    ≤ (weight_of case.study term.fault * dial_of case.study settings term.relay * n term) * 10 ^ 9) (terms_in case) =
    λ k d h. weighted _ _ _ _ _ _ (over_least case settings _ _ _ q (set k d h) (over k d h)) in
    let sums : least_sum case settings * q ≤ weighted_sum case.study case.currents settings n * 10 ^ 9 = sums_le _ _ q (10 ^ 9) (terms_in case) each in
    plain (least_sum case settings / 1000000) (least_sum case settings) (weighted_sum case.study case.currents settings n) q sums (floor_within (least_sum case settings) 1000000)
  where
    plain : (c s t q : ℕ) → s * q ≤ t * 1000000000 → c * 1000000 ≤ s → c * q ≤ 1000 * t
    plain c s t q sums rounded =
        let whole : c * 1000000 * q ≤ s * q = mul-le-mul_right q rounded in
        omega (arith, sums, whole)

-- the settings cost at most the cost from the upper ends
pub costs_at_most : (case : Case) (settings : Settings) → AreSet case settings → CostsAtMost case.study case.currents settings (cost_of case settings)
unfolding cost_of
costs_at_most case settings set q n some under =
    let each : All (λ term. (weight_of case.study term.fault * dial_of case.study settings term.relay * n term) * 10 ^ 9
    ≤ (weight_of case.study term.fault * dial_of case.study settings term.relay * (time_of case settings term.fault term.relay).upper) * q) (terms_in case) =
    λ k d h. weighted _ _ _ _ _ _ (under_most case settings _ _ _ q (set k d h) (under k d h)) in
    let sums : weighted_sum case.study case.currents settings n * 10 ^ 9 ≤ greatest_sum case settings * q = sums_le _ _ (10 ^ 9) q (terms_in case) each in
    plain (div_ceil (greatest_sum case settings) 1000000) (greatest_sum case settings) (weighted_sum case.study case.currents settings n) q sums (ceil_covers (greatest_sum case settings) 1000000 (omega arith))
  where
    plain : (c s t q : ℕ) → t * 1000000000 ≤ s * q → s ≤ c * 1000000 → 1000 * t ≤ c * q
    plain c s t q sums rounded =
        let whole : s * q ≤ c * 1000000 * q = mul-le-mul_right q rounded in
        omega (arith, sums, whole)
