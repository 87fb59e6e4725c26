-- What the ends of a root keep: where the root lies, and how near they are.
use Rattle.std.proofs.Common.{ℕ, suc, ◌+◌, ◌-◌, ◌*◌, ◌/◌, ◌<◌, ◌≤◌, ◌^◌, ◌≡◌, arith, inl, inr, subst}
use Rattle.std.proofs.Math.Nat.{le_of_mul-le-mul_right, mul-le-mul_left, mul-le-mul_right, one-le-pow, pow-le-pow_left, pow-le-pow_right, pow-lt-pow_left}
use Rattle.std.proofs.lemmas.Bool.{cases_lt}
use Rattle.std.proofs.lemmas.Nat.{le-div, mul-le, mul-pow}
use Rattle.std.specs.Int.{div_ceil}
use Rattle.coord_model.proofs.Quotients.{ceil_covers, ceil_least, ceil_next, floor_ceil, floor_within}
use Rattle.coord_model.specs.CustomForm.{IsInRange}
use Rattle.coord_model.specs.CustomRoot.{IsAtLeastRoot, IsAtMostRoot, IsHighEnd, IsLowEnd, high_power, last, low_power, one, power_down, power_up}
use Rattle.coord_model.specs.Enclosure.{IsEnclosable}
use Rattle.coord_model.specs.Time.{Multiple}
use Rattle.coord_model.specs.declared.curve.CurveForm.{CurveForm}
use Rattle.coord_model.proofs.CustomPowers.{down_step, first_down, near_one, of_last, one_up, power_down-more, power_up-le, thirty_up, true_down, true_up}
use Rattle.coord_model.proofs.CustomProducts.{down-bounds}
use Rattle.coord_model.proofs.CustomSpreads.{apart, together}

-- the multiple in units of 2^-48, rounded down, and rounded up
abbrev pub low_base : Multiple → ℕ
low_base m = m.num * one / m.den

abbrev pub high_base : Multiple → ℕ
high_base m = div_ceil (m.num * one) m.den

-- where the two lie
pub record AreBases (m : Multiple) (a a' : ℕ) : Type 0 where
  pub above : 4296 * 2 ^ 36 ≤ a
  pub within : a * m.den ≤ m.num * one
  pub covers : m.num * one ≤ a' * m.den
  pub next : a' ≤ a + 1
  pub ordered : a ≤ a'
  pub small : a' ≤ 30 * one

pub bases : (m : Multiple) → IsEnclosable m → AreBases m (low_base m) (high_base m)
bases m is =
    let some : 0 < m.den = omega (arith, is.some) in
    record {
      above = le-div (4296 * 2 ^ 36) (m.num * one) m.den some (omega (arith, is.above_one));
      within = floor_within (m.num * one) m.den;
      covers = ceil_covers (m.num * one) m.den some;
      next = ceil_next (m.num * one) m.den some;
      ordered = floor_ceil (m.num * one) m.den some;
      small = ceil_least (m.num * one) m.den (30 * one) some (omega (arith, is.at_most_thirty));
    }

-- ---- the power that is rooted

-- a power is at least its number
power_above : (n a : ℕ) → 1 ≤ n → one ≤ a → a ≤ power_down a n
power_above n a some above =
    let more = power_down-more (n - 1) 1 a above in
    let same : 1 + (n - 1) ≡ n = omega (arith, some) in
    subst (λ k. a ≤ power_down a k) same (omega (arith, more, first_down a))

pub low_power-above : (form : CurveForm) (m : Multiple) → IsInRange form → IsEnclosable m → 4296 * 2 ^ 36 ≤ low_power form m
low_power-above form m range is =
    let b = bases m is in
    omega (arith, b.above, power_above form.e (low_base m) range.some_e (omega (arith, b.above)))

-- 30^e is at most 256^h
thirty_within : (e h : ℕ) → 2 ≤ h → 2 * e ≤ 3 * h → e ≤ 4 → 30 ^ e ≤ 256 ^ h
thirty_within e h some low few =
    elim (cases_lt e 4) [
      | inl less ↦ omega (arith, pow-le-pow_right {n = 30} (omega arith) {i = e} {j = 3} (omega (arith, less)), pow-le-pow_right {n = 256} (omega arith) {i = 2} {j = h} some)
      | inr more ↦ omega (arith, pow-le-pow_right {n = 30} (omega arith) {i = e} {j = 4} few, pow-le-pow_right {n = 256} (omega arith) {i = 3} {j = h} (omega (arith, low, more)))
    ]

pub high_power-within : (form : CurveForm) (m : Multiple) → IsInRange form → 2 ≤ form.h → 2 * form.e ≤ 3 * form.h → IsEnclosable m → high_power form m ≤ power_down last form.h
high_power-within form m range root low is =
    let b = bases m is in
    omega (arith, thirty_up form.e (high_base m) b.small, mul-le-mul_right one (thirty_within form.e form.h root low range.e), of_last form.h)

-- ---- both sides of the root

-- two near ends of the power of a multiple, where it is a root
pub record IsRootOf (form : CurveForm) (m : Multiple) (low high : ℕ) : Type 0 where
  pub above_one : one + 2 ^ 36 ≤ low
  pub to : high ≤ last
  pub ordered : low ≤ high
  pub near : high ≤ low + 256
  pub below : low ^ form.h * m.den ^ form.e ≤ one ^ form.h * m.num ^ form.e
  pub above : m.num ^ form.e * one ^ form.h ≤ high ^ form.h * m.den ^ form.e

-- u stands for one, v and w for its powers: a root from below, by the powers p and q without units x and y
chain_below : (u v w x p q y d n : ℕ) → 0 < u → 0 < w → x * u ≤ p * v → p ≤ q → q * w ≤ y * u → y * d ≤ n * w → x * d ≤ v * n
chain_below u v w x p q y d n some some' first then last_one base =
    le_of_mul-le-mul_right {k = u * w} (omega (
      arith,
      mul-le-mul_right (w * d) first,
      mul-le-mul_right (v * w * d) then,
      mul-le-mul_right (v * d) last_one,
      mul-le-mul_right (u * v) base,
    ))
    (mul-le 1 1 u w some some')

chain_above : (u v w x p q y d n : ℕ) → 0 < u → 0 < w → n * w ≤ y * d → y * u ≤ q * w → q ≤ p → p * v ≤ x * u → n * v ≤ x * d
chain_above u v w x p q y d n some some' base first then last_one =
    le_of_mul-le-mul_right {k = u * w} (omega (
      arith,
      mul-le-mul_right (u * v) base,
      mul-le-mul_right (v * d) first,
      mul-le-mul_right (v * w * d) then,
      mul-le-mul_right (w * d) last_one,
    ))
    (mul-le 1 1 u w some some')

low_below : (form : CurveForm) (m : Multiple) (low : ℕ) → IsEnclosable m → IsAtMostRoot form.h (low_power form m) low
    → low ^ form.h * m.den ^ form.e ≤ one ^ form.h * m.num ^ form.e
low_below form m low is end =
    let b = bases m is in
    chain_below one (one ^ form.h) (one ^ form.e) (low ^ form.h) _ _ (low_base m ^ form.e) (m.den ^ form.e) (m.num ^ form.e)
    (omega arith) (one-le-pow form.e one (omega arith)) (true_up form.h low) end.meets (true_down form.e (low_base m))
    (rw (← mul-pow (low_base m) m.den form.e, ← mul-pow m.num one form.e) (pow-le-pow_left b.within form.e))

high_above : (form : CurveForm) (m : Multiple) (high : ℕ) → IsEnclosable m → IsAtLeastRoot form.h (high_power form m) high
    → m.num ^ form.e * one ^ form.h ≤ high ^ form.h * m.den ^ form.e
high_above form m high is end =
    let b = bases m is in
    chain_above one (one ^ form.h) (one ^ form.e) (high ^ form.h) _ _ (high_base m ^ form.e) (m.den ^ form.e) (m.num ^ form.e)
    (omega arith) (one-le-pow form.e one (omega arith))
    (rw (← mul-pow (high_base m) m.den form.e, ← mul-pow m.num one form.e) (pow-le-pow_left b.covers form.e))
    (true_up form.e (high_base m)) end.meets (true_down form.h high)

-- of two powers that are in order the numbers are
by_powers : (n x y : ℕ) → 1 ≤ n → x ^ n ≤ y ^ n → x ≤ y
by_powers n x y some ordered =
    elim (cases_lt y x) [
      | inl less ↦ absurd (omega (arith, ordered, pow-lt-pow_left {a = y} {b = x} {n = n} less (λ none. omega (arith, some, none))))
      | inr in_order ↦ in_order
    ]

ends_ordered : (form : CurveForm) (m : Multiple) (low high : ℕ) → 1 ≤ form.h → IsEnclosable m
    → low ^ form.h * m.den ^ form.e ≤ one ^ form.h * m.num ^ form.e → m.num ^ form.e * one ^ form.h ≤ high ^ form.h * m.den ^ form.e → low ≤ high
ends_ordered form m low high some is below above =
    by_powers form.h low high some (le_of_mul-le-mul_right {k = m.den ^ form.e} (omega (arith, below, above)) (one-le-pow form.e m.den is.some))

-- the low end is at least 2^-12 above one
low_above_one : (form : CurveForm) (m : Multiple) (low : ℕ) → IsInRange form → IsEnclosable m → IsLowEnd form.h (low_power form m) low → one + 2 ^ 36 ≤ low
low_above_one form m low range is end =
    end.greatest (one + 2 ^ 36) (record {
      from = omega arith;
      to = omega arith;
      meets = omega (arith, near_one form.h range.h, low_power-above form m range is, range.h);
    })

-- ---- how near the ends are

-- the low end is below 42 times the multiple
low_small : (form : CurveForm) (m : Multiple) (low : ℕ) → IsInRange form → 2 ≤ form.h → 2 * form.e ≤ 3 * form.h → IsEnclosable m
    → IsAtMostRoot form.h (low_power form m) low → low < 42 * low_base m
low_small form m low range root exponent is end =
    let b = bases m is in
    let a = low_base m in
    let far : one ≤ a = omega (arith, b.above) in
    let wider = power_down-more (form.h + 1 - form.e) form.e a far in
    let same : form.e + (form.h + 1 - form.e) ≡ suc form.h = omega (arith, root, exponent, range.e) in
    let widest : power_down a form.e ≤ power_down a (suc form.h) = subst (λ k. power_down a form.e ≤ power_down a k) same wider in
    let turn : power_down a (suc form.h) ≤ 30 * power_down a form.h =
    turned (power_down a form.h) a (power_down a (suc form.h)) (omega (arith, b.ordered, b.small)) (omega (arith, down_step form.h a, down-bounds (power_down a form.h) a)) in
    let powers : low ^ form.h ≤ 30 * a ^ form.h =
    compared (one ^ form.h) (low ^ form.h) (a ^ form.h) (power_up low form.h) (power_down a form.h) (one-le-pow form.h one (omega arith)) (true_up form.h low)
    (omega (arith, end.meets, widest, turn)) (true_down form.h a) in
    elim (cases_lt low (42 * a)) [
      | inl less ↦ less
      | inr more ↦ absurd (
          let grown : (42 * a) ^ form.h ≤ low ^ form.h = pow-le-pow_left more form.h in
          let apart : (42 * a) ^ form.h ≡ 42 ^ form.h * a ^ form.h = mul-pow 42 a form.h in
          let many : 42 ^ 2 ≤ 42 ^ form.h = pow-le-pow_right {n = 42} (omega arith) root in
          let some : 1 ≤ a ^ form.h = one-le-pow form.h a (omega (arith, far)) in
          omega (arith, grown, apart, powers, some, mul-le-mul_right (a ^ form.h) many)
          )
    ]
  where
    turned : (p a q : ℕ) → a ≤ 30 * one → q * one ≤ p * a → q ≤ 30 * p
    turned p a q small within = omega (arith, mul-le-mul_left p small, within)

    compared : (w x y p q : ℕ) → 0 < w → x * one ≤ p * w → p ≤ 30 * q → q * w ≤ y * one → x ≤ 30 * y
    compared w x y p q some first then after = omega (arith, mul-le-mul_right w then, first, after)

-- b is the power of the multiple a and c that of the next number; p is the power of r, and q that of r + 255
reached : (a r e h b c p q top : ℕ) → 0 < a → 0 < r → b ≤ p → p * (r + 253 * h) ≤ q * r → c * a ≤ b * (a + 4 * e) → top ≤ c → 4 * e * r ≤ 253 * h * a → top ≤ q
reached a r e h b c p q top some some' least far near below slow =
    le_of_mul-le-mul_right {k = a * r} (omega (
      arith,
      mul-le-mul_right (a * r) below,
      mul-le-mul_right r near,
      mul-le-mul_left b slow,
      mul-le-mul_right (a * (r + 253 * h)) least,
      mul-le-mul_right a far,
    ))
    (mul-le 1 1 a r some some')

-- 256 above the low end the power reaches that of the multiple
reaches : (form : CurveForm) (m : Multiple) (low : ℕ) → IsInRange form → 2 ≤ form.h → 2 * form.e ≤ 3 * form.h → IsEnclosable m
    → IsLowEnd form.h (low_power form m) low → low + 256 ≤ last → high_power form m ≤ power_down (low + 256) form.h
reaches form m low range root exponent is end within =
    let b = bases m is in
    let a = low_base m in
    let from = end.at_most.from in
    let few = low_small form m low range root exponent is end.at_most in
    let past : low_power form m ≤ power_up (low + 1) form.h =
    elim (cases_lt (low_power form m) (power_up (low + 1) form.h)) [
      | inl more ↦ omega (arith, more)
      | inr less ↦ absurd (omega (arith, end.greatest (low + 1) (record { from = omega arith; to = omega arith; meets = less })))
    ] in
    let h_is : suc (form.h - 1) ≡ form.h = omega (arith, root) in
    let e_is : suc (form.e - 1) ≡ form.e = omega (arith, range.some_e) in
    let far : power_up (low + 1) form.h * (low + 1 + 253 * form.h) ≤ power_down (low + 1 + 255) form.h * (low + 1) =
    subst (λ k. power_up (low + 1) k * (low + 1 + 253 * k) ≤ power_down (low + 1 + 255) k * (low + 1)) h_is (apart (form.h - 1) (low + 1) (omega (arith, from))) in
    let near : power_up (a + 1) form.e * a ≤ power_down a form.e * (a + 4 * form.e) =
    subst (λ k. power_up (a + 1) k * a ≤ power_down a k * (a + 4 * k)) e_is (together (form.e - 1) a (omega (arith, range.e)) (omega (arith, b.above))) in
    let same : low + 1 + 255 ≡ low + 256 = omega arith in
    subst (λ k. high_power form m ≤ power_down k form.h) same
    (reached a (low + 1) form.e form.h (low_power form m) _ _ _ _ (omega (arith, b.above)) (omega arith) past far near (power_up-le form.e (high_base m) (a + 1) b.next)
    (slow form.e form.h low a exponent few (omega (arith, b.above))))
  where
    slow : (e h low a : ℕ) → 2 * e ≤ 3 * h → low < 42 * a → 1 ≤ a → 4 * e * (low + 1) ≤ 253 * h * a
    slow e h low a exponent few some = omega (arith, mul-le-mul_right (2 * (low + 1)) exponent, mul-le-mul_left (6 * h) few)

-- all that the ends keep
pub ends_are : (form : CurveForm) (m : Multiple) (low high : ℕ) → IsInRange form → 2 ≤ form.h → 2 * form.e ≤ 3 * form.h → IsEnclosable m
    → IsLowEnd form.h (low_power form m) low → IsHighEnd form.h (high_power form m) high → IsRootOf form m low high
ends_are form m low high range root exponent is low_end high_end =
    let below = low_below form m low is low_end.at_most in
    let above = high_above form m high is high_end.at_least in
    record {
      above_one = low_above_one form m low range is low_end;
      to = high_end.at_least.to;
      ordered = ends_ordered form m low high range.some_h is below above;
      near = elim (cases_lt last (low + 256)) [
        | inl past ↦ omega (arith, past, high_end.at_least.to)
        | inr within ↦ high_end.least (low + 256) (record { from = omega (arith, low_end.at_most.from); to = within; meets = reaches form m low range root exponent is low_end within })
      ];
      below = below;
      above = above;
    }

-- one is at most each root
pub one_is_at_most : (h power : ℕ) → one ≤ power → IsAtMostRoot h power one
one_is_at_most h power above = record { from = omega arith; to = omega arith; meets = rw (one_up h) above }
