use mir.Syntax.{w128}
use mir.Val.{SFits, to_z}
use Rattle.std.specs.Prelude.{◌+ℤ◌}
use Rattle.std.proofs.Common.{◌+◌, arith, rules}
use Rattle.std.proofs.lemmas.Int.{to_z-of_z}
use Rattle.box_bound.proofs.Constants.{IsClose, close_fits, close_more, constants_more}
use Rattle.box_bound.proofs.dual.constants.Goals as goal
use Rattle.box_bound.proofs.dual.constants.Goals.{After-weighted_constant-sum}

close : (c : After-weighted_constant-sum) → IsClose (c.loop-weight.weight-index + 1) (to_z w128 c.loop-weight.sum-bits +ℤ c.weighted_constant-sum.result)
close c =
    let one = c.weighted_constant-sum.ensures in
    let so_far = c.loop-weight.invariant in
    close_more c.loop-weight.weight-index _ c.weighted_constant-sum.result (record { not_low = so_far.not_low; not_high = so_far.not_high }) (record { not_low = one.not_low; not_high = one.not_high })

pub loop-weight-preserved : goal.loop-weight-preserved
loop-weight-preserved c =
    let one : SFits w128 c.weighted_constant-sum.result = search rules in
    let near = close (goal.at.loop-weight-preserved c).After-weighted_constant-sum in
    let whole = close_fits (c.loop-weight.weight-index + 1) _ (omega (arith, c.loop-weight-test.true, c.requires.few)) near in
    rw (to_z-of_z w128 c.weighted_constant-sum.result one, to_z-of_z w128 _ whole) (record {
      sum = constants_more c.args.inst.now c.args.weights.now c.loop-weight.weight-index _ _ c.weighted_constant-sum.result c.loop-weight-test.true c.loop-weight.invariant.sum c.weighted_constant-sum.ensures.exact;
      not_low = near.not_low;
      not_high = near.not_high;
    })
