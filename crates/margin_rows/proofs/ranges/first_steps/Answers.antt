use Rattle.std.proofs.Common.{arith}
use Rattle.margin_rows.proofs.Spanned.{first_step_small}
use Rattle.margin_rows.proofs.ranges.first_steps.Goals as goal

pub overflow_add-result : goal.overflow_add-result
overflow_add-result c =
    let span = c.in-Some.ensures in
    omega (arith, first_step_small c.args.inst.now c.args.relay c.in-Some.high c.requires.fits (span.inside c.in-Some.high span.ordered (omega arith)))
