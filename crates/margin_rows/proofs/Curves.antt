-- What the times of the curves keep at every multiple.
use Rattle.coord_model.specs.Enclosure.{IsAtMost, IsEnclosable, IsNotAbove}
use Rattle.coord_model.specs.Form.{form_of, form_with, is_custom}
use Rattle.coord_model.specs.Order.{IsFalling}
use Rattle.coord_model.specs.PartLimits.{FitsCurve}
use Rattle.coord_model.specs.Time.{Multiple}
use Rattle.coord_model.specs.declared.curve.CurveName.{CurveName}
use Rattle.coord_model.specs.declared.curve.CurveName.TheVariants.{IecA, IecB, IecC, IeeeMi, IeeeVi, IeeeEi, Custom}
use Rattle.coord_model.proofs.CurveEnds.{Keeps}
use Rattle.curve_custom.specs.Laws as custom
use Rattle.curve_iec.specs.Laws as iec
use Rattle.curve_iec.specs.declared.curve.IecCurve.TheVariants.{A, B, C}
use Rattle.curve_ieee.specs.Laws as ieee
use Rattle.curve_ieee.specs.declared.curve.IeeeCurve.TheVariants.{MI, VI, EI}
use Rattle.std.proofs.Common.{arith}
use Rattle.margin_rows.specs.Times.{curve_time, IsOrdinary}

-- each is under and over the curve's time, narrow, in order and bounded
pub time_keeps : (curve : CurveName) (m : Multiple) → FitsCurve curve → IsEnclosable m → Keeps (is_custom curve) (form_of curve) m (curve_time curve m)
unfolding curve_time
time_keeps IecA m fits within = iec.keeps A m within
time_keeps IecB m fits within = iec.keeps B m within
time_keeps IecC m fits within = iec.keeps C m within
time_keeps IeeeMi m fits within = ieee.keeps MI m within
time_keeps IeeeVi m fits within = ieee.keeps VI m within
time_keeps IeeeEi m fits within = ieee.keeps EI m within
time_keeps (Custom k4 c4 e h) m fits within = custom.keeps (form_with k4 c4 e h) m fits within

pub time_is_ordinary : (curve : CurveName) (m : Multiple) → FitsCurve curve → IsEnclosable m → IsOrdinary (curve_time curve m)
time_is_ordinary curve m fits within =
    let keeps = time_keeps curve m fits within in
    record { positive = keeps.bounded.0; ordered = keeps.ordered; small = keeps.bounded.1 }

-- neither end rises as the multiple grows
pub time_falls : (curve : CurveName) (m m' : Multiple) → FitsCurve curve → IsEnclosable m → IsEnclosable m' → IsAtMost m m' → IsNotAbove (curve_time curve m') (curve_time curve m)
unfolding curve_time
time_falls IecA m m' fits within within' grows = iec.falls A m m' within within' grows
time_falls IecB m m' fits within within' grows = iec.falls B m m' within within' grows
time_falls IecC m m' fits within within' grows = iec.falls C m m' within within' grows
time_falls IeeeMi m m' fits within within' grows = ieee.falls MI m m' within within' grows
time_falls IeeeVi m m' fits within within' grows = ieee.falls VI m m' within within' grows
time_falls IeeeEi m m' fits within within' grows = ieee.falls EI m m' within within' grows
time_falls (Custom k4 c4 e h) m m' fits within within' grows = custom.falls (form_with k4 c4 e h) m m' fits within within' grows

-- the numbers of each curve are those of one that falls
pub is_falling : (curve : CurveName) → FitsCurve curve → IsFalling (form_of curve)
is_falling IecA fits = record { some_k = omega arith; some_e = omega arith; some_h = omega arith }
is_falling IecB fits = record { some_k = omega arith; some_e = omega arith; some_h = omega arith }
is_falling IecC fits = record { some_k = omega arith; some_e = omega arith; some_h = omega arith }
is_falling IeeeMi fits = record { some_k = omega arith; some_e = omega arith; some_h = omega arith }
is_falling IeeeVi fits = record { some_k = omega arith; some_e = omega arith; some_h = omega arith }
is_falling IeeeEi fits = record { some_k = omega arith; some_e = omega arith; some_h = omega arith }
is_falling (Custom k4 c4 e h) fits = record { some_k = fits.in_range.some_k; some_e = fits.in_range.some_e; some_h = fits.in_range.some_h }
