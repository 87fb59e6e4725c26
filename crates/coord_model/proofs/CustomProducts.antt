-- What the two roundings of a product keep: bounds and growth.
use Rattle.std.proofs.Common.{ℕ, ◌+◌, ◌*◌, ◌<◌, ◌≤◌, arith}
use Rattle.std.proofs.lemmas.Nat.{mul-le}
use Rattle.std.proofs.Math.Nat.{mul-le-mul_left}
use Rattle.coord_model.specs.CustomRoot.{one, product_down, product_up}

pub down-bounds : (a b : ℕ) → (product_down a b * one ≤ a * b) × (a * b < product_down a b * one + one)
unfolding product_down
down-bounds a b = (omega arith, omega arith)

pub up-bounds : (a b : ℕ) → (a * b ≤ product_up a b * one) × (product_up a b * one < a * b + one)
unfolding product_up
up-bounds a b = (omega arith, omega arith)

pub down-le : (a b c d : ℕ) → a ≤ c → b ≤ d → product_down a b ≤ product_down c d
down-le a b c d p q = omega (arith, mul-le a b c d p q, down-bounds a b, down-bounds c d)

pub up-le : (a b c d : ℕ) → a ≤ c → b ≤ d → product_up a b ≤ product_up c d
up-le a b c d p q = omega (arith, mul-le a b c d p q, up-bounds a b, up-bounds c d)

-- a factor of at least one takes nothing away
pub down-grows : (a r : ℕ) → one ≤ r → a ≤ product_down a r
down-grows a r above = omega (arith, mul-le-mul_left a above, down-bounds a r)

pub up-grows : (a r : ℕ) → one ≤ r → a ≤ product_up a r
up-grows a r above = omega (arith, mul-le-mul_left a above, up-bounds a r)
