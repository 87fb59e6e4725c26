use Rattle.std.proofs.Common.{◌+◌, arith, pos}
use Rattle.std.proofs.lemmas.Int.{to_z-of_z}
use mir.Syntax.{w128}
use mir.Val.{to_z}
use Rattle.box_bound.proofs.PartLaws.{small_fits, total_more}
use Rattle.box_bound.proofs.Totals.{near_fits, near_more}
use Rattle.box_bound.proofs.parts.sum.Goals as goal

pub loop-least-preserved : goal.loop-least-preserved
loop-least-preserved c =
    let here = c.requires.small c.loop-least.least-index (pos 0) c.loop-least-test.true in
    let near = near_more c.loop-least.least-index (to_z w128 c.loop-least.sum-bits) _ c.loop-least.invariant.near here in
    rw (to_z-of_z w128 _ (small_fits _ here), to_z-of_z w128 _ (near_fits (c.loop-least.least-index + 1) _ (omega (arith, c.loop-least-test.true, c.requires.few)) near)) (record {
      sum = total_more c.args.leasts.now c.loop-least.least-index (pos 0) (to_z w128 c.loop-least.sum-bits) c.loop-least-test.true c.loop-least.invariant.sum;
      near = near;
    })
