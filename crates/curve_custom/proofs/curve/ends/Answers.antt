-- With a whole exponent the powers fit, and are far enough apart.
use Rattle.std.proofs.Common.{arith}
use Rattle.std.proofs.Math.Nat.{one-le-pow}
use Rattle.curve_custom.proofs.Wholes.{power_above, power_small, product_small, whole_exponent}
use Rattle.curve_custom.proofs.curve.ends.Goals as goal

pub pow-power-requires : goal.pow-power-requires
pow-power-requires c =
    let few = whole_exponent c.args.form (grind arith) c.requires.exponent in
    rw c.from.ensures (omega (arith, power_small c.args.num c.args.form.e 3000000000 (omega arith) c.requires.multiple.num few))

pub pow-requires : goal.pow-requires
pow-requires c =
    let few = whole_exponent c.args.form (grind arith) c.requires.exponent in
    rw c.from-then-form-eq1.ensures (omega (arith, power_small c.args.den c.args.form.e 100000000 (omega arith) c.requires.multiple.den few))

pub ends_between-requires-clause-some_unit : goal.ends_between-requires-clause-some_unit
ends_between-requires-clause-some_unit c =
    rw (c.pow.ensures, c.from-then-form-eq1.ensures) (omega (arith, one-le-pow c.args.form.e c.args.den c.requires.multiple.some))

pub ends_between-requires-clause-fits : goal.ends_between-requires-clause-fits
ends_between-requires-clause-fits c =
    let few = whole_exponent c.args.form (grind arith) c.requires.exponent in
    rw (c.pow.ensures, c.from-then-form-eq1.ensures)
    (product_small c.args.form.k4 _ c.requires.range.k4 (power_small c.args.den c.args.form.e 100000000 (omega arith) c.requires.multiple.den few))

pub ends_between-requires-clause-above_one : goal.ends_between-requires-clause-above_one
ends_between-requires-clause-above_one c =
    rw (c.pow.ensures, c.from-then-form-eq1.ensures, c.pow-power.ensures, c.from.ensures)
    (power_above c.args.form.e c.args.num c.args.den c.requires.range.some_e c.requires.multiple.above_one)
