-- The root that a curve of its own constants takes (ours): the power M^(e/h) of a multiple M, in units of 2^-48.
use Rattle.std.specs.Prelude.{ℕ, zero, suc, ◌*◌, ◌/◌, ◌^◌, ◌≤◌}
use Rattle.std.specs.Int.{div_ceil}
use Rattle.coord_model.specs.Time.{Multiple}
use Rattle.coord_model.specs.declared.curve.CurveForm.{CurveForm}

-- the whole number that stands for one, and the last one that is tried as a root, which stands for 256
abbrev pub one : ℕ
one = 2 ^ 48

abbrev pub last : ℕ
last = 2 ^ 56

-- the product of a and b, rounded down, and rounded up
unfoldable pub product_down : ℕ → ℕ → ℕ
product_down a b = a * b / one

unfoldable pub product_up : ℕ → ℕ → ℕ
product_up a b = div_ceil (a * b) one

-- the n-th power of r: one, multiplied n times by r, each product rounded down, and rounded up
unfoldable pub power_down : ℕ → ℕ → ℕ
power_down r zero = one
power_down r (suc n) = product_down (power_down r n) r

unfoldable pub power_up : ℕ → ℕ → ℕ
power_up r zero = one
power_up r (suc n) = product_up (power_up r n) r

-- the power M^e of a multiple, seen from below and from above
abbrev pub low_power : CurveForm → Multiple → ℕ
low_power form m = power_down (m.num * one / m.den) form.e

abbrev pub high_power : CurveForm → Multiple → ℕ
high_power form m = power_up (div_ceil (m.num * one) m.den) form.e

-- r is seen to be at most the h-th root of a power: its own h-th power, rounded up, is at most that
pub record IsAtMostRoot (h power r : ℕ) : Type 0 where
  pub from : one ≤ r
  pub to : r ≤ last
  pub meets : power_up r h ≤ power

-- r is seen to be at least the root: its own power, rounded down, is at least the power
pub record IsAtLeastRoot (h power r : ℕ) : Type 0 where
  pub from : one ≤ r
  pub to : r ≤ last
  pub meets : power ≤ power_down r h

-- the greatest number that is seen to be at most the root
pub record IsLowEnd (h power low : ℕ) : Type 0 where
  pub at_most : IsAtMostRoot h power low
  pub greatest : (r : ℕ) → IsAtMostRoot h power r → r ≤ low

-- the least number that is seen to be at least the root
pub record IsHighEnd (h power high : ℕ) : Type 0 where
  pub at_least : IsAtLeastRoot h power high
  pub least : (r : ℕ) → IsAtLeastRoot h power r → high ≤ r
