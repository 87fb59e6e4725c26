-- Where the middle fails, what is at least the root lies above it.
use Rattle.std.proofs.Common.{◌+◌, ◌*◌, ◌/◌, ◌<◌, arith}
use Rattle.root_interval.specs.Product.{one}
use Rattle.root_interval.specs.Power.{pow50_down}
use Rattle.root_interval.proofs.RootLaws.{above_failing}
use Rattle.root_interval.proofs.root.high_end.Goals as goal

pub loop-bottom-preserved : goal.loop-bottom-preserved
loop-bottom-preserved c =
    let fails : pow50_down ((c.loop-bottom.bottom + c.loop-bottom.high) / 2) * c.args.den < c.args.num * one = grind arith in
    (omega arith, omega arith, c.loop-bottom.invariant.2, λ r h. omega (arith, above_failing _ _ _ r fails h))
