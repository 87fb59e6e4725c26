-- What the powers keep of what their products keep.
use Rattle.std.proofs.Common.{ℕ, zero, suc, ◌+◌, ◌-◌, ◌*◌, ◌<◌, ◌≤◌, ◌^◌, ◌≡◌, refl, subst, arith}
use Rattle.std.proofs.lemmas.Nat.{mul-le}
use Rattle.std.proofs.Math.Nat.{mul-le-mul_right, pow-le-pow_right, pow-suc, pow-zero}
use Rattle.coord_model.specs.CustomRoot.{last, one, power_down, power_up, product_down, product_up}
use Rattle.coord_model.proofs.CustomProducts.{down-bounds, down-grows, down-le, up-bounds, up-grows, up-le}

-- one turn of a power
pub down_step : (n r : ℕ) → power_down r (suc n) ≡ product_down (power_down r n) r
unfolding power_down
down_step n r = refl

pub up_step : (n r : ℕ) → power_up r (suc n) ≡ product_up (power_up r n) r
unfolding power_up
up_step n r = refl

-- ---- growth

pub power_down-le : (n r s : ℕ) → r ≤ s → power_down r n ≤ power_down s n
unfolding power_down
power_down-le zero r s p = omega arith
power_down-le (suc n) r s p = down-le _ _ _ _ (power_down-le n r s p) p

pub power_up-le : (n r s : ℕ) → r ≤ s → power_up r n ≤ power_up s n
unfolding power_up
power_up-le zero r s p = omega arith
power_up-le (suc n) r s p = up-le _ _ _ _ (power_up-le n r s p) p

-- one product more takes nothing away
pub power_down-more : (k n r : ℕ) → one ≤ r → power_down r n ≤ power_down r (n + k)
power_down-more zero n r above = let same : n + 0 ≡ n = omega arith in rw same (omega arith)
power_down-more (suc k) n r above =
    let next : n + suc k ≡ suc (n + k) = omega arith in
    rw (next, down_step (n + k) r) (omega (arith, power_down-more k n r above, down-grows (power_down r (n + k)) r above))

pub power_up-more : (k n r : ℕ) → one ≤ r → power_up r n ≤ power_up r (n + k)
power_up-more zero n r above = let same : n + 0 ≡ n = omega arith in rw same (omega arith)
power_up-more (suc k) n r above =
    let next : n + suc k ≡ suc (n + k) = omega arith in
    rw (next, up_step (n + k) r) (omega (arith, power_up-more k n r above, up-grows (power_up r (n + k)) r above))

-- a power is at least one
pub power_down-above : (n r : ℕ) → one ≤ r → one ≤ power_down r n
unfolding power_down
power_down-above zero r above = omega arith
power_down-above (suc n) r above =
    let so_far = power_down-above n r above in
    let grows = down-grows (power_down r n) r above in
    omega arith

pub power_up-above : (n r : ℕ) → one ≤ r → one ≤ power_up r n
unfolding power_up
power_up-above zero r above = omega arith
power_up-above (suc n) r above =
    let so_far = power_up-above n r above in
    let grows = up-grows (power_up r n) r above in
    omega arith

-- a power that has passed a number stays past it
pub up_stays : (r n times number : ℕ) → one ≤ r → n ≤ times → number < power_up r n → number < power_up r times
up_stays r n times number above within past =
    let more = power_up-more (times - n) n r above in
    let same : n + (times - n) ≡ times = omega (arith, within) in
    omega (arith, past, subst (λ t. power_up r n ≤ power_up r t) same more)

pub down_stays : (r n times number : ℕ) → one ≤ r → n ≤ times → number ≤ power_down r n → number ≤ power_down r times
down_stays r n times number above within past =
    let more = power_down-more (times - n) n r above in
    let same : n + (times - n) ≡ times = omega (arith, within) in
    omega (arith, past, subst (λ t. power_down r n ≤ power_down r t) same more)

-- each power of one is one
pub one_up : (n : ℕ) → power_up one n ≡ one
unfolding power_up product_up
one_up zero = omega arith
one_up (suc n) = rw (one_up n) (omega arith)

-- a power of a multiple of at most thirty, up to the fourth
pub thirty_down : (n a : ℕ) → a ≤ 30 * one → power_down a n ≤ 30 ^ n * one
unfolding power_down
thirty_down zero a small = omega arith
thirty_down (suc n) a small =
    let so_far = mul-le _ _ _ _ (thirty_down n a small) small in
    let next : 30 ^ suc n ≡ 30 ^ n * 30 = pow-suc 30 n in
    omega (arith, next, so_far, down-bounds (power_down a n) a)

pub thirty_up : (n a : ℕ) → a ≤ 30 * one → power_up a n ≤ 30 ^ n * one
unfolding power_up
thirty_up zero a small = omega arith
thirty_up (suc n) a small =
    let so_far = mul-le _ _ _ _ (thirty_up n a small) small in
    let next : 30 ^ suc n ≡ 30 ^ n * 30 = pow-suc 30 n in
    omega (arith, next, so_far, up-bounds (power_up a n) a)

-- 30^4 is below 2^20
thirty_small : (n : ℕ) → n ≤ 4 → 30 ^ n ≤ 2 ^ 20
thirty_small n few = omega (arith, pow-le-pow_right {n = 30} (omega arith) few)

pub fits_down : (n a : ℕ) → a ≤ 30 * one → n ≤ 4 → power_down a n ≤ 2 ^ 68
fits_down n a small few = omega (arith, thirty_down n a small, mul-le-mul_right one (thirty_small n few))

pub fits_up : (n a : ℕ) → a ≤ 30 * one → n ≤ 4 → power_up a n ≤ 2 ^ 68
fits_up n a small few = omega (arith, thirty_up n a small, mul-le-mul_right one (thirty_small n few))

-- ---- the powers without rounding

-- u stands for one and w for its power: x is at most the power p, and so is x * r at most the next
above_step : (u w x p p' r : ℕ) → x * u ≤ p * w → p * r ≤ p' * u → x * r * u ≤ p' * (w * u)
above_step u w x p p' r so_far covers = omega (arith, mul-le-mul_right r so_far, mul-le-mul_right w covers)

below_step : (u w x p p' r : ℕ) → p * w ≤ x * u → p' * u ≤ p * r → p' * (w * u) ≤ x * r * u
below_step u w x p p' r so_far within = omega (arith, mul-le-mul_right r so_far, mul-le-mul_right w within)

-- the power of r is at most the power rounded up, in units of one to the n-th
pub true_up : (n r : ℕ) → r ^ n * one ≤ power_up r n * one ^ n
unfolding power_up
true_up zero r = omega (arith, pow-zero r)
true_up (suc n) r = rw (pow-suc r n, pow-suc one n) (above_step one (one ^ n) (r ^ n) (power_up r n) _ r (true_up n r) (up-bounds (power_up r n) r).0)

pub true_down : (n r : ℕ) → power_down r n * one ^ n ≤ r ^ n * one
unfolding power_down
true_down zero r = omega (arith, pow-zero r)
true_down (suc n) r = rw (pow-suc r n, pow-suc one n) (below_step one (one ^ n) (r ^ n) (power_down r n) _ r (true_down n r) (down-bounds (power_down r n) r).0)

-- ---- a little above one

-- a number that is 2^-12 above one stays near to one, up to the hundredth power
pub near_one : (n : ℕ) → n ≤ 100 → power_up (one + 2 ^ 36) n ≤ one + 2 * n * 2 ^ 36
unfolding power_up
near_one zero few = omega arith
near_one (suc n) few =
    let so_far = near_one n (omega (arith, few)) in
    omega (arith, so_far, few, up-bounds (power_up (one + 2 ^ 36) n) (one + 2 ^ 36))

-- the powers of 256
pub of_last : (n : ℕ) → 256 ^ n * one ≤ power_down last n
unfolding power_down
of_last zero = omega arith
of_last (suc n) =
    let next : 256 ^ suc n ≡ 256 ^ n * 256 = pow-suc 256 n in
    omega (arith, next, of_last n, down-bounds (power_down last n) last)

-- the first power is the number
pub first_up : (r : ℕ) → power_up r 1 ≡ r
unfolding power_up product_up
first_up r = omega arith

pub first_down : (r : ℕ) → power_down r 1 ≡ r
unfolding power_down product_down
first_down r = omega arith
