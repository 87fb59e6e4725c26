-- A curve of its own constants in a network file fits exactly if the two tests on it pass.
use Rattle.std.specs.Prelude.{nat_le}
use Rattle.std.specs.Option.{is_some}
use Rattle.std.proofs.Common.{◌≡◌, ℕ, Option, Some, None, Ok, IfSome, IsNone, IsTrue, subst, ◌*◌, Bool, true, false, refl, sym, inl, inr, arith}
use Rattle.std.proofs.lemmas.Bool.{cases_eq, eq-eqb, ne_eqb}
use Rattle.std.proofs.lemmas.Bool.Decides.{nat_tests}
use Rattle.coord_model.specs.CustomForm.{IsCustomForm, IsExponent, IsInRange, IsSmall}
use Rattle.coord_model.specs.Form.{form_with}
use Rattle.coord_model.specs.PartLimits.{FitsCurve}
use Rattle.coord_model.specs.declared.curve.CurveForm.{CurveForm}
use Rattle.coord_model.specs.declared.curve.CurveName.{CurveName}
use Rattle.coord_model.specs.declared.curve.CurveName.TheVariants.{IecA, IecB, IecC, IeeeMi, IeeeVi, IeeeEi, Custom}
use Rattle.curve_custom.specs.Laws.{small_is_meant, small_means}
use Rattle.network_file.specs.Curves.{KeepsCurve, has_exponent, has_small_time}
use Rattle.network_file.specs.Numbered.{within_curve}
use Rattle.network_file.specs.declared.fault.Place.{Place}

module _ (k4 c4 e h : ℕ) where
  exponent_test : IsInRange (form_with k4 c4 e h) → has_exponent (Custom k4 c4 e h) ≡ true → IsExponent (form_with k4 c4 e h)
  exponent_test range passes =
      elim (cases_eq h 1) [
        | inl one ↦ inl (one, (let few : nat_le e 3 ≡ true = rw (eq-eqb h 1 one) at passes in grind (arith, nat_tests)))
        | inr other ↦ inr ((omega (arith, other, range.some_h)), (let few : nat_le (2 * e) (3 * h) ≡ true = rw (ne_eqb h 1 other) at passes in grind (arith, nat_tests)))
      ]

  exponent_passes : IsExponent (form_with k4 c4 e h) → has_exponent (Custom k4 c4 e h) ≡ true
  exponent_passes (inl one) = let few = one.1 in rw (eq-eqb h 1 one.0) (grind (arith, nat_tests))
  exponent_passes (inr root) = let few = root.1 in let many = root.0 in rw (ne_eqb h 1 (λ same. omega (arith, many, same))) (grind (arith, nat_tests))

  small_test : IsInRange (form_with k4 c4 e h) → has_small_time (Custom k4 c4 e h) ≡ true → IsSmall (form_with k4 c4 e h)
  small_test range passes = small_is_meant (form_with k4 c4 e h) range (grind (arith, nat_tests))

  small_passes : IsInRange (form_with k4 c4 e h) → IsExponent (form_with k4 c4 e h) → IsSmall (form_with k4 c4 e h) → has_small_time (Custom k4 c4 e h) ≡ true
  small_passes range exponent small = let within = small_means (form_with k4 c4 e h) range exponent small in grind (arith, nat_tests)

-- with both tests passed the curve fits
pub curve_fits : (curve : CurveName) → KeepsCurve curve → has_exponent curve ≡ true → has_small_time curve ≡ true → FitsCurve curve
curve_fits IecA keeps exponent small = tt
curve_fits IecB keeps exponent small = tt
curve_fits IecC keeps exponent small = tt
curve_fits IeeeMi keeps exponent small = tt
curve_fits IeeeVi keeps exponent small = tt
curve_fits IeeeEi keeps exponent small = tt
curve_fits (Custom k4 c4 e h) keeps exponent small =
    record { in_range = keeps; exponent = exponent_test k4 c4 e h keeps exponent; small = small_test k4 c4 e h keeps small }

-- a curve that fits is within its ranges and passes both
pub fits_keeps : (curve : CurveName) → FitsCurve curve → KeepsCurve curve
fits_keeps IecA fits = tt
fits_keeps IecB fits = tt
fits_keeps IecC fits = tt
fits_keeps IeeeMi fits = tt
fits_keeps IeeeVi fits = tt
fits_keeps IeeeEi fits = tt
fits_keeps (Custom k4 c4 e h) fits = fits.in_range

fits_exponent : (curve : CurveName) → FitsCurve curve → has_exponent curve ≡ true
fits_exponent IecA fits = refl
fits_exponent IecB fits = refl
fits_exponent IecC fits = refl
fits_exponent IeeeMi fits = refl
fits_exponent IeeeVi fits = refl
fits_exponent IeeeEi fits = refl
fits_exponent (Custom k4 c4 e h) fits = exponent_passes k4 c4 e h fits.exponent

fits_small : (curve : CurveName) → FitsCurve curve → has_small_time curve ≡ true
fits_small IecA fits = refl
fits_small IecB fits = refl
fits_small IecC fits = refl
fits_small IeeeMi fits = refl
fits_small IeeeVi fits = refl
fits_small IeeeEi fits = refl
fits_small (Custom k4 c4 e h) fits = small_passes k4 c4 e h fits.in_range fits.exponent fits.small

-- and so its constants are taken
pub curve_passes : (place : Place) (curve : CurveName) → FitsCurve curve → within_curve place curve ≡ Ok tt
unfolding within_curve
curve_passes place curve fits = rw (fits_exponent curve fits, fits_small curve fits)

-- what the constructor of such a curve answers
given_small : (k4 c4 e h : ℕ) → IsInRange (form_with k4 c4 e h) → has_exponent (Custom k4 c4 e h) ≡ true → IsCustomForm (form_with k4 c4 e h)
    → has_small_time (Custom k4 c4 e h) ≡ true
given_small k4 c4 e h range exponent custom = small_passes k4 c4 e h range (exponent_test k4 c4 e h range exponent) custom.small

refused_small : (k4 c4 e h : ℕ) → IsInRange (form_with k4 c4 e h) → has_exponent (Custom k4 c4 e h) ≡ true → ¬ (IsCustomForm (form_with k4 c4 e h))
    → has_small_time (Custom k4 c4 e h) ≡ false
refused_small k4 c4 e h range exponent refused = go (has_small_time (Custom k4 c4 e h)) refl
  where
    go : (b : Bool) → has_small_time (Custom k4 c4 e h) ≡ b → b ≡ false
    go true passes = absurd (refused (record { in_range = range; exponent = exponent_test k4 c4 e h range exponent; small = small_test k4 c4 e h range passes }))
    go false fails = refl

pub told_small : (k4 c4 e h : ℕ) (curve : CurveName) (made : Option CurveForm) → curve ≡ Custom k4 c4 e h → KeepsCurve curve → IsTrue (has_exponent curve)
    → IfSome made (λ v. v ≡ form_with k4 c4 e h) → IfSome made IsCustomForm → (IsNone made → ¬ (IsCustomForm (form_with k4 c4 e h))) → is_some made ≡ has_small_time curve
told_small k4 c4 e h curve made is keeps exponent given allowed refused = rw is (go made given allowed refused)
  where
    range : IsInRange (form_with k4 c4 e h)
    range = subst KeepsCurve is keeps

    passes : has_exponent (Custom k4 c4 e h) ≡ true
    passes = subst (λ c. has_exponent c ≡ true) is exponent

    go : (o : Option CurveForm) → IfSome o (λ v. v ≡ form_with k4 c4 e h) → IfSome o IsCustomForm → (IsNone o → ¬ (IsCustomForm (form_with k4 c4 e h)))
        → is_some o ≡ has_small_time (Custom k4 c4 e h)
    go (Some v) same custom none = sym (given_small k4 c4 e h range passes (subst IsCustomForm same custom))
    go None same custom none = sym (refused_small k4 c4 e h range passes (none refl))
