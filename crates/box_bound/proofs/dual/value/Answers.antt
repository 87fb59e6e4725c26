use Rattle.std.specs.Prelude.{ℤ, pos, ◌+ℤ◌, ◌<ℤ◌, ◌≤ℤ◌}
use Rattle.std.proofs.Common.{◌≡◌, ℕ, ◌+◌, ◌*◌, arith, rules, ap, length}
use Rattle.std.proofs.lemmas.Int.{ints, to_z-of_z}
use mir.Syntax.{w128}
use mir.Val.{SFits, to_z}
use Rattle.coord_model.specs.StudyData.{StudyData}
use Rattle.box_bound.proofs.Duality.{bound_costs, rows_met, weak_duality}
use Rattle.box_bound.proofs.Totals.{IsNear, sum_more, sum_all, near_more, near_fits}
use Rattle.box_bound.proofs.Values.{value_only, value_rises}
use Rattle.box_bound.proofs.dual.value.Goals as goal
use Rattle.box_bound.proofs.dual.value.Goals.{After-least_part-sum}

near : (c : After-least_part-sum) → IsNear (c.loop-relay.relay + 1) (to_z w128 c.loop-relay.sum-bits +ℤ c.least_part-sum.result)
near c = near_more c.loop-relay.relay _ c.least_part-sum.result c.loop-relay.invariant.near (record { not_low = c.least_part-sum.ensures.not_low; not_high = c.least_part-sum.ensures.not_high })

pub loop-relay-preserved : goal.loop-relay-preserved
loop-relay-preserved c =
    let case = c.args.inst.now in
    let fits : SFits w128 c.least_part-sum.result = search rules in
    let n = near (goal.at.loop-relay-preserved c).After-least_part-sum in
    let whole = near_fits (c.loop-relay.relay + 1) _ (omega arith) n in
    rw (to_z-of_z w128 c.least_part-sum.result fits, to_z-of_z w128 _ whole) (record {
      sum = sum_more case c.args.ranges.now c.args.lambda c.args.weights.now c.loop-relay.relay _ c.least_part-sum.result c.loop-relay.invariant.sum c.least_part-sum.ensures.exact;
      near = n;
    })

pub returns-clause-exact : goal.returns-clause-exact
returns-clause-exact c =
    let case = c.args.inst.now in
    sum_all case c.args.ranges.now c.args.lambda c.args.weights.now c.loop-relay.relay _
    (omega (arith, c.loop-relay-test.false, c.loop-relay.auto.relay-end, c.len-relay-end.ensures, c.study.result.now.relays.ok.0, ap (λ (s : StudyData). length s.relays) c.study.ensures.value)) c.loop-relay.invariant.sum

pub returns-clause-at_most_cost : goal.returns-clause-at_most_cost
returns-clause-at_most_cost c settings lies met =
    weak_duality c.args.inst.now c.args.ranges.now c.args.lambda c.args.weights.now settings _ c.requires.fits c.requires.weights (returns-clause-exact c) lies
    (rows_met c.args.inst.now c.args.ranges.now c.args.lambda c.args.weights.now settings c.args.weights.now c.requires.weights.rows met)

pub returns-clause-only : goal.returns-clause-only
returns-clause-only c = λ other is. value_only c.args.inst.now c.args.ranges.now c.args.lambda c.args.weights.now other _ c.requires.steps c.requires.fits.dials is (returns-clause-exact c)

pub returns-clause-rises : goal.returns-clause-rises
returns-clause-rises c = λ outer other within is. value_rises c.args.inst.now c.args.ranges.now outer c.args.lambda c.args.weights.now _ other within c.requires.steps c.requires.fits.dials (returns-clause-exact c) is

pub returns-clause-costs : goal.returns-clause-costs
returns-clause-costs c = λ some settings lies met. bound_costs c.args.inst.now c.args.ranges.now settings c.args.lambda _ c.study.ensures.fits c.requires.fits lies some (returns-clause-at_most_cost c settings lies met)

pub returns-clause-void : goal.returns-clause-void
returns-clause-void c none above settings lies met = void _ c.args.lambda _ none above (returns-clause-at_most_cost c settings lies met)
  where
    void : (v : ℤ) (lambda s : ℕ) → lambda ≡ 0 → pos 0 <ℤ v → v ≤ℤ pos (lambda * s) → ⊥
    void v lambda s none above at_most = plain v (lambda * s) (ap (λ (k : ℕ). k * s) none) above at_most
      where
        plain : (v : ℤ) (p : ℕ) → p ≡ 0 * s → pos 0 <ℤ v → v ≤ℤ pos p → ⊥
        plain v p is above at_most = omega (arith, ints, is, above, at_most)
