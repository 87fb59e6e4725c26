-- Where the middle fails, what is at most the root lies below it.
use Rattle.std.proofs.Common.{◌<◌, arith}
use Rattle.coord_model.specs.CustomRoot.{power_up}
use Rattle.curve_custom.proofs.Ends.{below_failing}
use Rattle.curve_custom.proofs.root.low_end.Goals as goal

pub loop-low-preserved : goal.loop-low-preserved
loop-low-preserved c =
    let fails : c.args.power < power_up c.div_ceil-middle.result c.args.h = grind arith in
    (omega arith, omega arith, c.loop-low.invariant.2, λ r h. omega (arith, below_failing _ _ _ r fails h))
