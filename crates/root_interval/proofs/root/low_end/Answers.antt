-- Where the middle fails, what is at most the root lies below it.
use Rattle.std.proofs.Common.{◌*◌, ◌<◌, arith}
use Rattle.root_interval.specs.Product.{one}
use Rattle.root_interval.specs.Power.{pow50_up}
use Rattle.root_interval.proofs.RootLaws.{below_failing}
use Rattle.root_interval.proofs.root.low_end.Goals as goal

pub loop-low-preserved : goal.loop-low-preserved
loop-low-preserved c =
    let fails : c.args.num * one < pow50_up c.div_ceil-middle.result * c.args.den = grind arith in
    (omega arith, omega arith, c.loop-low.invariant.2, λ r h. omega (arith, below_failing _ _ _ r fails h))
