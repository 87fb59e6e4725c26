-- The square of the multiple is far enough above one, and a power of exponent one is the number itself.
use Rattle.std.proofs.Common.{arith, refl}
use Rattle.coord_model.proofs.NamedCurves.{pow_one, square_above}
use Rattle.curve_iec.proofs.curve.IecCurve.ends.Goals as goal

pub ends_between-requires-in-C-clause-above_one : goal.ends_between-requires-in-C-clause-above_one
ends_between-requires-in-C-clause-above_one c =
    rw (c.from-whole_den.ensures, c.from-whole_num.ensures) (omega (arith, square_above c.args.num c.args.den c.requires.above_one))

pub returns-in-B : goal.returns-in-B
returns-in-B c =
    rw (c.ends_between-in-B.ensures.exact, c.form-form.ensures.exact, c.from-whole_den.ensures, c.from-whole_num.ensures, c.in-B.is, pow_one c.args.den, pow_one c.args.num) refl
