-- The multiple lies from one to thirty.
use Rattle.std.proofs.Common.{arith}
use Rattle.coord_model.proofs.CustomRoots.{bases}
use Rattle.curve_custom.proofs.root.high_power.Goals as goal

pub power_up-requires-clause-a : goal.power_up-requires-clause-a
power_up-requires-clause-a c =
    let b = bases (record { num = c.args.num; den = c.args.den }) c.requires.multiple in
    (rw (c.div_ceil.ensures, c.from.ensures, c.from-2.ensures) (omega (arith, b.above, b.ordered)), rw (c.div_ceil.ensures, c.from.ensures, c.from-2.ensures) (omega (arith, b.small)))
