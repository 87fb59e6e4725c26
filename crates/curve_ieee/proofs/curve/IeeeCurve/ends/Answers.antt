-- The square of the multiple is far enough above one, and a power of exponent two is the square.
use Rattle.std.proofs.Common.{arith, refl, inl, inr}
use Rattle.coord_model.proofs.NamedCurves.{pow_two, square_above}
use Rattle.curve_ieee.proofs.curve.IeeeCurve.ends.Goals as goal

pub ends_between-requires-in-VI-clause-above_one : goal.ends_between-requires-in-VI-clause-above_one
ends_between-requires-in-VI-clause-above_one c =
    rw (c.from-whole_den.ensures, c.from-whole_num.ensures) (omega (arith, square_above c.args.num c.args.den c.requires.above_one))

pub returns-in-VI : goal.returns-in-VI
returns-in-VI c =
    rw (c.ends_between-in-VI.ensures.exact, c.form-form.ensures.exact, c.from-whole_den.ensures, c.from-whole_num.ensures)
    (elim c.in-VI.is [
      | inl very ↦ rw (very, pow_two c.args.den, pow_two c.args.num) refl
      | inr extremely ↦ rw (extremely, pow_two c.args.den, pow_two c.args.num) refl
    ])
