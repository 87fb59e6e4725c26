-- What the two roundings of a product keep: bounds, growth, and a distance between their arguments.
use Rattle.std.proofs.Common.{ℕ, ◌+◌, ◌*◌, ◌<◌, ◌≤◌, arith}
use Rattle.std.proofs.lemmas.Nat.{mul-le}
use Rattle.std.proofs.Math.Nat.{mul-le-mul_left}
use Rattle.root_interval.specs.Product.{one, mul_down, mul_up}

pub mul_down-bounds : (a b : ℕ) → (mul_down a b * one ≤ a * b) × (a * b < mul_down a b * one + one)
unfolding mul_down
mul_down-bounds a b = (omega arith, omega arith)

pub mul_up-bounds : (a b : ℕ) → (a * b ≤ mul_up a b * one) × (mul_up a b * one < a * b + one)
unfolding mul_up
mul_up-bounds a b = (omega arith, omega arith)

pub mul_down-le : (a b c d : ℕ) → a ≤ c → b ≤ d → mul_down a b ≤ mul_down c d
mul_down-le a b c d p q = omega (arith, mul-le a b c d p q, mul_down-bounds a b, mul_down-bounds c d)

pub mul_up-le : (a b c d : ℕ) → a ≤ c → b ≤ d → mul_up a b ≤ mul_up c d
mul_up-le a b c d p q = omega (arith, mul-le a b c d p q, mul_up-bounds a b, mul_up-bounds c d)

-- a product of numbers that are at least one is at least one
pub one_le_mul_up : (a b : ℕ) → one ≤ a → one ≤ b → one ≤ mul_up a b
one_le_mul_up a b p q = omega (arith, mul-le one one a b p q, mul_up-bounds a b)

-- Above one, what lies s apart before the products lies s apart after them, whatever the rounding.
pub stays_apart : (s a b c d : ℕ) → 1 ≤ s → one ≤ a → one ≤ b → a + s ≤ c → b + s ≤ d → mul_up a b + s ≤ mul_down c d
stays_apart s a b c d some above_a above_b p q =
    omega (arith, mul-le (a + s) (b + s) c d p q, mul-le-mul_left s above_a, mul-le-mul_left s above_b, mul_up-bounds a b, mul_down-bounds c d)
