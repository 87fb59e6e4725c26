-- Products of fixed-point numbers. Ours: a whole number n stands for n / 2^56.
use Rattle.std.specs.Prelude.{ℕ, ◌*◌, ◌/◌, ◌^◌}
use Rattle.std.specs.Int.{div_ceil}

-- the whole number that stands for one
abbrev pub one : ℕ
one = 2 ^ 56

-- the product of a and b, rounded down
unfoldable pub mul_down : ℕ → ℕ → ℕ
mul_down a b = a * b / one

-- the product of a and b, rounded up
unfoldable pub mul_up : ℕ → ℕ → ℕ
mul_up a b = div_ceil (a * b) one
