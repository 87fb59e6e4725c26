-- The constants that a curve of its own may have (ours).
use Rattle.std.specs.Prelude.{◌≡◌, ℕ, ◌*◌, ◌^◌, ◌<◌, ◌≤◌, ◌⊎◌}
use Rattle.coord_model.specs.CustomRoot.{IsLowEnd, low_power, one}
use Rattle.coord_model.specs.Enclosure.{ends_between, whole_enclosure}
use Rattle.coord_model.specs.Time.{Multiple}
use Rattle.coord_model.specs.declared.curve.CurveForm.{CurveForm}

-- each number is in its range: k up to 1,000 s, c up to 100 s, the exponent e/h of numbers up to 4 and up to 100
pub record IsInRange (form : CurveForm) : Type 0 where
  pub some_k : 1 ≤ form.k4
  pub k4 : form.k4 ≤ 10000000
  pub c4 : form.c4 ≤ 1000000
  pub some_e : 1 ≤ form.e
  pub e : form.e ≤ 4
  pub some_h : 1 ≤ form.h
  pub h : form.h ≤ 100

-- the exponent is 1, 2 or 3, or a fraction of at most 3/2
abbrev pub IsExponent : CurveForm → Type 0
IsExponent form = ((form.h ≡ 1) × (form.e ≤ 3)) ⊎ ((2 ≤ form.h) × (2 * form.e ≤ 3 * form.h))

-- the lowest multiple at which a relay has to sense a current: 1.05
abbrev pub lowest : Multiple
lowest = record { num = 105; den = 100 }

-- at the lowest multiple the upper end of the time is below 2^40 nanoseconds
pub record IsSmall (form : CurveForm) : Type 0 where
  pub whole : form.h ≡ 1 → (whole_enclosure form lowest).upper < 2 ^ 40
  pub root : 2 ≤ form.h → (low : ℕ) → IsLowEnd form.h (low_power form lowest) low → (ends_between form one low low).upper < 2 ^ 40

-- a curve may have these constants
pub record IsCustomForm (form : CurveForm) : Type 0 where
  pub in_range : IsInRange form
  pub exponent : IsExponent form
  pub small : IsSmall form
