-- The numbers of the curves. IEC 60255-151, curves A, B and C: k 0.14, 13.5, 80 and exponent 0.02, 1, 2, c 0.
-- IEEE C37.112: A 0.0515, 19.61, 28.2, B 0.1140, 0.491, 0.1217, p 0.02, 2, 2.
use Rattle.std.specs.Prelude.{ℕ, Bool, true, false}
use Rattle.coord_model.specs.declared.curve.CurveForm.{CurveForm}
use Rattle.coord_model.specs.declared.curve.CurveName.{CurveName}
use Rattle.coord_model.specs.declared.curve.CurveName.TheVariants.{IecA, IecB, IecC, IeeeMi, IeeeVi, IeeeEi, Custom}

-- the form with k and c in ten-thousandths of a second, and the exponent e/h
abbrev pub form_with : ℕ → ℕ → ℕ → ℕ → CurveForm
form_with k4 c4 e h = record { k4 = k4; c4 = c4; e = e; h = h }

-- the numbers of a curve
abbrev pub form_of : CurveName → CurveForm
form_of IecA = form_with 1400 0 1 50
form_of IecB = form_with 135000 0 1 1
form_of IecC = form_with 800000 0 2 1
form_of IeeeMi = form_with 515 1140 1 50
form_of IeeeVi = form_with 196100 4910 2 1
form_of IeeeEi = form_with 282000 1217 2 1
form_of (Custom k4 c4 e h) = form_with k4 c4 e h

-- the curve has constants of its own
abbrev pub is_custom : CurveName → Bool
is_custom IecA = false
is_custom IecB = false
is_custom IecC = false
is_custom IeeeMi = false
is_custom IeeeVi = false
is_custom IeeeEi = false
is_custom (Custom k4 c4 e h) = true
