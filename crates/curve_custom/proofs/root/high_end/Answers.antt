-- Where the middle fails, what is at least the root lies above it.
use Rattle.std.proofs.Common.{◌+◌, ◌/◌, ◌<◌, arith}
use Rattle.coord_model.specs.CustomRoot.{power_down}
use Rattle.curve_custom.proofs.Ends.{above_failing}
use Rattle.curve_custom.proofs.root.high_end.Goals as goal

pub loop-bottom-preserved : goal.loop-bottom-preserved
loop-bottom-preserved c =
    let fails : power_down ((c.loop-bottom.bottom + c.loop-bottom.high) / 2) c.args.h < c.args.power = grind arith in
    (omega arith, omega arith, c.loop-bottom.invariant.2, λ r h. omega (arith, above_failing _ _ _ r fails h))
