-- A bound that settings cost at least is not above their cost.
use Rattle.std.specs.Prelude.{ℤ, pos, ◌≤ℤ◌}
use Rattle.std.specs.Int.{div_ceil}
use Rattle.std.specs.List.{Contains}
use Rattle.std.proofs.Common.{ℕ, ◌*◌, ◌/◌, ◌≤◌, arith, get_or, inl}
use Rattle.std.proofs.Math.Nat.{div-mul-le_self, mul-le-mul_left}
use Rattle.std.proofs.lemmas.List.Elements.{Contains-get_or}
use Rattle.coord_model.specs.Choice.{Settings}
use Rattle.coord_model.specs.declared.study.Term.{Term}
use Rattle.coord_model.specs.Cost.{weight_of}
use Rattle.coord_model.specs.Dial.{dial_of}
use Rattle.margin_rows.specs.Case.{Case, FitsCase, terms_in}
use Rattle.margin_rows.specs.FirstBox.{IsInFirstBox}
use Rattle.margin_rows.specs.Margin.{time_of}
use Rattle.margin_rows.specs.Price.{cost_of, greatest_sum, least_sum}
use Rattle.margin_rows.proofs.Boxed.{pickup_first}
use Rattle.margin_rows.proofs.Costs.{sums_le}
use Rattle.margin_rows.proofs.Looked.{first_ordinary}
use Rattle.margin_rows.proofs.Listed.{term_facts}
use Rattle.coord_model.proofs.Quotients.{ceil_covers}
use Rattle.box_bound.specs.LowerBound.{bound_at}
use Rattle.box_bound.proofs.Duality.{bound_below}

-- the bound of a number that is at most lambda times the least sum of settings is at most their cost
pub bound_below_cost : (case : Case) (settings : Settings) (lambda : ℕ) (value : ℤ) → FitsCase case → IsInFirstBox case settings → 1 ≤ lambda
    → value ≤ℤ pos (lambda * least_sum case settings) → bound_at value lambda ≤ cost_of case settings
unfolding cost_of
bound_below_cost case settings lambda value limits inside some under =
    let sums : least_sum case settings * 1 ≤ greatest_sum case settings * 1 = sums_le (λ (x : Term). weight_of case.study x.fault * dial_of case.study settings x.relay * (time_of case settings x.fault x.relay).lower)
    (λ (x : Term). weight_of case.study x.fault * dial_of case.study settings x.relay * (time_of case settings x.fault x.relay).upper) 1 1 (terms_in case)
    (λ k e below. part (weight_of case.study (get_or (terms_in case) k e).fault * dial_of case.study settings (get_or (terms_in case) k e).relay) _ _ (ordered (get_or (terms_in case) k e) (Contains-get_or (terms_in case) k e below))) in
    rounded (bound_at value lambda) (least_sum case settings) (greatest_sum case settings) (bound_below lambda (least_sum case settings) value some under) sums
  where
    part : (w l u : ℕ) → l ≤ u → (w * l) * 1 ≤ (w * u) * 1
    part w l u le = let more = mul-le-mul_left w le in omega (arith, more)

    ordered : (t : Term) → Contains (terms_in case) t → (time_of case settings t.fault t.relay).lower ≤ (time_of case settings t.fault t.relay).upper
    ordered t listed = (first_ordinary case t.fault t.relay _ limits (inl listed) (pickup_first case settings t.relay inside (term_facts case t listed).relay)).ordered

    rounded : (b l g : ℕ) → b ≤ l / 1000000 → l * 1 ≤ g * 1 → b ≤ div_ceil g 1000000
    rounded b l g under less =
        let whole : l / 1000000 * 1000000 ≤ l = div-mul-le_self l 1000000 in
        let over = ceil_covers g 1000000 (omega arith) in
        omega (arith, under, less, whole, over)
