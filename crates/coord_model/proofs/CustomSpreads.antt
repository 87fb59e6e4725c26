-- How far powers of neighbours lie apart, as a part of themselves.
use Rattle.std.proofs.Common.{ℕ, zero, suc, ◌+◌, ◌-◌, ◌*◌, ◌≤◌, ◌≡◌, arith}
use Rattle.std.proofs.Math.Nat.{le_of_mul-le-mul_right, mul-le-mul_left, mul-le-mul_right}
use Rattle.coord_model.specs.CustomRoot.{one, power_down, power_up}
use Rattle.coord_model.proofs.CustomPowers.{down_step, first_down, first_up, power_down-above, power_up-above, up_step}
use Rattle.coord_model.proofs.CustomProducts.{down-bounds, up-bounds}

-- one turn: the power p of r, rounded up, and the power q of r + 255, rounded down, lie apart by n times 253 parts of r
apart_step : (r n p q p' q' : ℕ) → 1 ≤ n → one ≤ p → p * (r + 253 * n) ≤ q * r → p' * one ≤ p * r + one → q * (r + 255) ≤ q' * one + one
    → p' * (r + 253 * suc n) ≤ q' * r
apart_step r n p q p' q' some above so_far over under =
    le_of_mul-le-mul_right {k = one} (omega (
      arith,
      some,
      mul-le-mul_right (r + 255) so_far,
      mul-le-mul_right (r + 253 * suc n) over,
      mul-le-mul_right r under,
      mul-le-mul_right (2 * r + 64515 * n) above,
    )) (omega arith)

-- the n-th powers of r, rounded up, and of r + 255, rounded down
pub apart : (n r : ℕ) → one ≤ r → power_up r (suc n) * (r + 253 * suc n) ≤ power_down (r + 255) (suc n) * r
apart zero r above = rw (first_up r, first_down (r + 255)) (omega arith)
apart (suc n) r above =
    rw (up_step (suc n) r, down_step (suc n) (r + 255))
    (apart_step r (suc n) (power_up r (suc n)) (power_down (r + 255) (suc n)) _ _ (omega arith) (power_up-above (suc n) r above) (apart n r above)
    (omega (arith, up-bounds (power_up r (suc n)) r)) (omega (arith, down-bounds (power_down (r + 255) (suc n)) (r + 255))))

-- of two numbers each with a lower one, the outer products are at least the inner ones
crossed : (x y u v : ℕ) → u ≤ x → v ≤ y → x * v + u * y ≤ x * y + u * v
crossed x y u v low low' = let parts : x ≡ u + (x - u) = omega (arith, low) in let parts' : y ≡ v + (y - v) = omega (arith, low') in rw (parts, parts') (plain u (x - u) v (y - v))
  where
    plain : (u s v t : ℕ) → (u + s) * v + u * (v + t) ≤ (u + s) * (v + t) + u * v
    plain u s v t = omega arith

-- one turn: the power p of a, rounded down, and the power q of a + 1, rounded up, lie together by n times 4 parts of a
together_step : (a n p q p' q' : ℕ) → 1 ≤ n → n ≤ 4 → one ≤ a → one ≤ p → q * a ≤ p * (a + 4 * n) → p * a ≤ p' * one + one → q' * one ≤ q * (a + 1) + one
    → q' * a ≤ p' * (a + 4 * suc n)
together_step a n p q p' q' some few far above so_far under over =
    le_of_mul-le-mul_right {k = one} (omega (
      arith,
      some,
      few,
      far,
      mul-le-mul_right (a + 1) so_far,
      mul-le-mul_right (a + 4 * suc n) under,
      mul-le-mul_right a over,
      mul-le-mul_right a above,
      mul-le-mul_right n above,
      crossed p a one (4 * n) above (omega (arith, few, far)),
    )) (omega arith)

-- the n-th powers of a, rounded down, and of a + 1, rounded up, up to the fourth
pub together : (n a : ℕ) → n ≤ 3 → one ≤ a → power_up (a + 1) (suc n) * a ≤ power_down a (suc n) * (a + 4 * suc n)
together zero a few far = rw (first_up (a + 1), first_down a) (omega (arith, mul-le-mul_left a far))
together (suc n) a few far =
    rw (up_step (suc n) (a + 1), down_step (suc n) a)
    (together_step a (suc n) (power_down a (suc n)) (power_up (a + 1) (suc n)) _ _ (omega arith) (omega (arith, few)) far (power_down-above (suc n) a far)
    (together n a (omega (arith, few)) far)
    (omega (arith, down-bounds (power_down a (suc n)) a)) (omega (arith, up-bounds (power_up (a + 1) (suc n)) (a + 1))))
