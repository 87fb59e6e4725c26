-- The multiple lies from one to thirty, and its power is at least as much.
use Rattle.std.proofs.Common.{arith}
use Rattle.coord_model.proofs.CustomRoots.{bases, low_power-above}
use Rattle.curve_custom.proofs.root.low_power.Goals as goal

pub power_down-requires-clause-a : goal.power_down-requires-clause-a
power_down-requires-clause-a c =
    let b = bases (record { num = c.args.num; den = c.args.den }) c.requires.multiple in
    (rw (c.from.ensures, c.from-2.ensures) (omega (arith, b.above)), rw (c.from.ensures, c.from-2.ensures) (omega (arith, b.ordered, b.small)))

pub returns-clause-above : goal.returns-clause-above
returns-clause-above c = rw (c.power_down.ensures.exact, c.from.ensures, c.from-2.ensures) (omega (arith, low_power-above c.args.form (record { num = c.args.num; den = c.args.den }) c.requires.range c.requires.multiple))
