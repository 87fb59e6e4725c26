-- That under and over a curve's time say what the words say. Ours.
use Rattle.std.specs.Prelude.{ℕ, ◌*◌, ◌<◌, ◌≤◌}
use Rattle.coord_model.specs.Enclosure.{IsEnclosable}
use Rattle.coord_model.specs.Time.{Multiple, IsUnder, IsOver}
use Rattle.coord_model.specs.declared.curve.CurveForm.{CurveForm}

-- a curve that falls: k is above 0, and so is the exponent e/h
pub record IsFalling (form : CurveForm) : Type 0 where
  pub some_k : 1 ≤ form.k4
  pub some_e : 1 ≤ form.e
  pub some_h : 1 ≤ form.h

-- at each enclosable multiple and each denominator q there are numbers n/q under the time and numbers over it,
-- and no number under it is above a number over it
pub record UnderIsAtMostOver : Type 0 where
  pub some_under : (form : CurveForm) (m : Multiple) (q : ℕ) → IsFalling form → IsEnclosable m → 0 < q → (n : ℕ) × IsUnder form m n q
  pub some_over : (form : CurveForm) (m : Multiple) (q : ℕ) → IsFalling form → IsEnclosable m → 0 < q → (n : ℕ) × IsOver form m n q
  pub ordered : (form : CurveForm) (m : Multiple) (n q n' q' : ℕ) → IsFalling form → IsEnclosable m
      → IsUnder form m n q → IsOver form m n' q' → n * q' ≤ n' * q
