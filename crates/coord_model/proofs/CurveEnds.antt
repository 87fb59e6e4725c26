-- What the two ends of an operating time keep, from where the power of the multiple lies.
use Rattle.std.proofs.Common.{ℕ, Bool, ◌+◌, ◌-◌, ◌*◌, ◌/◌, ◌^◌, ◌<◌, ◌≤◌, ◌≡◌, ap, arith}
use Rattle.std.proofs.Math.Nat.{mul-le-mul_left, mul-le-mul_right, le_of_mul-le-mul_right, one-le-pow, pow-le-pow_left}
use Rattle.std.proofs.lemmas.Nat.{le-div, mul-pow}
use Rattle.std.specs.Int.{div_ceil}
use Rattle.coord_model.specs.Enclosure.{Enclosure, ends_between, constant_ns, width_of, IsNotAbove}
use Rattle.coord_model.specs.Time.{Multiple, excess, IsUnder, IsOver}
use Rattle.coord_model.specs.declared.curve.CurveForm.{CurveForm}
use Rattle.coord_model.proofs.Quotients.{floor_within, floor_near, floor_ceil, ceil_covers, ceil_least, ceil_some, ceil_next}

-- the power of the multiple lies between low/unit and high/unit
pub record HasPower (form : CurveForm) (m : Multiple) (unit low high : ℕ) : Type 0 where
  pub some_unit : 0 < unit
  pub above_one : unit < low
  pub ordered : low ≤ high
  pub low_power : low ^ form.h * m.den ^ form.e ≤ unit ^ form.h * m.num ^ form.e
  pub high_power : m.num ^ form.e * unit ^ form.h ≤ high ^ form.h * m.den ^ form.e

-- what an enclosure of a curve's time keeps
pub record Keeps (is_custom : Bool) (form : CurveForm) (m : Multiple) (ends : Enclosure) : Type 0 where
  pub under : IsUnder form m ends.lower (10 ^ 9)
  pub over : IsOver form m ends.upper (10 ^ 9)
  pub ordered : ends.lower ≤ ends.upper
  pub narrow : ends.upper ≤ ends.lower + width_of is_custom form
  pub bounded : (0 < ends.lower) × (ends.upper < 2 ^ 40)

-- ---- powers

-- what two numbers x and y in the proportion of u and v say of the powers of u and v
powers : (a b u v x y n : ℕ) → 0 < u → x * v ≤ y * u → a * u ^ n ≤ v ^ n * b → a * x ^ n ≤ b * y ^ n
powers a b u v x y n some in_proportion meets =
    let proportion : x ^ n * v ^ n ≤ y ^ n * u ^ n = rw (← mul-pow x v n, ← mul-pow y u n) (pow-le-pow_left in_proportion n) in
    cancelled (u ^ n) (v ^ n) (x ^ n) (y ^ n) (one-le-pow n u some) proportion meets
  where
    cancelled : (p q s t : ℕ) → 0 < p → s * q ≤ t * p → a * p ≤ q * b → a * s ≤ b * t
    cancelled p q s t positive proportion meets =
        le_of_mul-le-mul_right {k = p} (omega (arith, mul-le-mul_right s meets, mul-le-mul_right b proportion)) positive

-- ---- under and over

-- the constant term leaves the excess
excess_is : (form : CurveForm) (n : ℕ) → excess form (n + constant_ns form) (10 ^ 9) ≡ 10000 * n
excess_is form n = plain n form.c4
  where
    plain : (n c : ℕ) → 10000 * (n + c * 100000) - c * 10 ^ 9 ≡ 10000 * n
    plain n c = omega arith

-- n times what the power has above one, and n times the power
grown : (k n unit p : ℕ) → unit ≤ p → n * (p - unit) ≤ k * 100000 * unit → 10000 * n * p ≤ (10000 * n + k * 10 ^ 9) * unit
grown k n unit p above fits =
    let parts : p ≡ unit + (p - unit) = omega (arith, above) in
    rw parts (joined (p - unit) fits)
  where
    joined : (d : ℕ) → n * d ≤ k * 100000 * unit → 10000 * n * (unit + d) ≤ (10000 * n + k * 10 ^ 9) * unit
    joined d fits = omega (arith, fits)

grown_back : (k n unit p : ℕ) → unit ≤ p → k * 100000 * unit ≤ n * (p - unit) → (10000 * n + k * 10 ^ 9) * unit ≤ 10000 * n * p
grown_back k n unit p above covers =
    let parts : p ≡ unit + (p - unit) = omega (arith, above) in
    rw parts (joined (p - unit) covers)
  where
    joined : (d : ℕ) → k * 100000 * unit ≤ n * d → (10000 * n + k * 10 ^ 9) * unit ≤ 10000 * n * (unit + d)
    joined d covers = omega (arith, covers)

-- the lower end is under the time
pub lower_is_under : (form : CurveForm) (m : Multiple) (unit low high : ℕ) → HasPower form m unit low high
    → IsUnder form m (ends_between form unit low high).lower (10 ^ 9)
lower_is_under form m unit low high power =
    let n = form.k4 * 100000 * unit / (high - unit) in
    let more : 10000 * n * high ≤ (10000 * n + form.k4 * 10 ^ 9) * unit =
    grown form.k4 n unit high (omega (arith, power.above_one, power.ordered)) (floor_within (form.k4 * 100000 * unit) (high - unit)) in
    rw (excess_is form n)
    (powers (m.num ^ form.e) (m.den ^ form.e) unit high (10000 * n) (10000 * n + form.k4 * 10 ^ 9) form.h power.some_unit more power.high_power)

some_scaled : (k unit : ℕ) → 0 < k → 0 < unit → 0 < k * 100000 * unit
some_scaled k unit some_k some_unit = omega (arith, mul-le-mul_right unit some_k)

past : (c n : ℕ) → 0 < n → c * 10 ^ 9 < 10000 * (n + c * 100000)
past c n some = omega arith

-- the upper end is over it
pub upper_is_over : (form : CurveForm) (m : Multiple) (unit low high : ℕ) → 0 < form.k4 → HasPower form m unit low high
    → IsOver form m (ends_between form unit low high).upper (10 ^ 9)
upper_is_over form m unit low high some power =
    let n = div_ceil (form.k4 * 100000 * unit) (low - unit) in
    let divisor : 0 < low - unit = omega (arith, power.above_one) in
    let more : (10000 * n + form.k4 * 10 ^ 9) * unit ≤ 10000 * n * low =
    grown_back form.k4 n unit low (omega (arith, power.above_one)) (ceil_covers (form.k4 * 100000 * unit) (low - unit) divisor) in
    record {
      past_constant = past form.c4 n (ceil_some (form.k4 * 100000 * unit) (low - unit) divisor (some_scaled form.k4 unit some power.some_unit));
      reaches = rw (excess_is form n)
          (powers (m.den ^ form.e) (m.num ^ form.e) low unit (10000 * n + form.k4 * 10 ^ 9) (10000 * n) form.h (omega (arith, power.above_one)) more
          (omega (arith, power.low_power)));
    }

-- ---- order, width, bounds

-- a quotient falls as its divisor grows
floor_ordered : (a b b' : ℕ) → 0 < b → b ≤ b' → a / b' ≤ a / b
floor_ordered a b b' some grows = le-div (a / b') a b some (omega (arith, mul-le-mul_left (a / b') grows, floor_within a b'))

-- the lower end is at most the upper
pub ends_ordered : (form : CurveForm) (m : Multiple) (unit low high : ℕ) → HasPower form m unit low high
    → (ends_between form unit low high).lower ≤ (ends_between form unit low high).upper
ends_ordered form m unit low high power =
    let scaled = form.k4 * 100000 * unit in
    let divisor : 0 < low - unit = omega (arith, power.above_one) in
    let wider : low - unit ≤ high - unit = omega (arith, power.above_one, power.ordered) in
    plain (scaled / (high - unit)) (scaled / (low - unit)) (div_ceil scaled (low - unit)) (constant_ns form)
    (floor_ordered scaled (low - unit) (high - unit) divisor wider) (floor_ceil scaled (low - unit) divisor)
  where
    plain : (x y z c : ℕ) → x ≤ y → y ≤ z → x + c ≤ z + c
    plain x y z c p q = omega arith

-- the ends of an exact power are next to each other
pub exact_ends_narrow : (form : CurveForm) (unit power : ℕ) → unit < power
    → (ends_between form unit power power).upper ≤ (ends_between form unit power power).lower + 1
exact_ends_narrow form unit power above =
    plain (form.k4 * 100000 * unit / (power - unit)) (div_ceil (form.k4 * 100000 * unit) (power - unit)) (constant_ns form)
    (ceil_next (form.k4 * 100000 * unit) (power - unit) (omega (arith, above)))
  where
    plain : (x y c : ℕ) → y ≤ x + 1 → y + c ≤ x + c + 1
    plain x y c p = omega arith

-- the ends of a root are fewer than a hundred nanoseconds apart
pub root_ends_narrow : (form : CurveForm) (low high : ℕ) → form.k4 ≤ 1400 → 2 ^ 56 + 3 * 2 ^ 44 ≤ low → low ≤ high → high ≤ low + 2 ^ 14
    → (ends_between form (2 ^ 56) low high).upper ≤ (ends_between form (2 ^ 56) low high).lower + 100
root_ends_narrow form low high few above ordered near =
    let scaled = form.k4 * 100000 * 2 ^ 56 in
    let low_part = low - 2 ^ 56 in
    let high_part = high - 2 ^ 56 in
    let n = scaled / high_part in
    let some : 0 < low_part = omega (arith, above) in
    let some_high : 0 < high_part = omega (arith, above, ordered) in
    let covers : scaled ≤ (n + 100) * low_part =
    close scaled n low_part high_part (omega (arith, few)) (omega (arith, above)) (omega (arith, above, ordered)) (omega (arith, near))
    (floor_within scaled high_part) (floor_near scaled high_part some_high) in
    plain n (div_ceil scaled low_part) (constant_ns form) (ceil_least scaled low_part (n + 100) some covers)
  where
    plain : (x y c : ℕ) → y ≤ x + 100 → y + c ≤ x + c + 100
    plain x y c p = omega arith

    close : (a n p q : ℕ) → a ≤ 140000000 * 2 ^ 56 → 3 * 2 ^ 44 ≤ p → p ≤ q → q ≤ p + 2 ^ 14 → n * q ≤ a → a < (n + 1) * q → a ≤ (n + 100) * p
    close a n p q small far wider near within next =
        let few : n ≤ 200000000000 = omega (arith, mul-le-mul_left n far, mul-le-mul_left n wider, within, small) in
        omega (arith, mul-le-mul_left (n + 1) near, next, few, far)

-- the lower end is not nothing
pub lower_some : (form : CurveForm) (m : Multiple) (unit low high : ℕ) → 0 < form.k4 → HasPower form m unit low high → high ≤ 100000 * unit
    → 0 < (ends_between form unit low high).lower
lower_some form m unit low high some power at_most =
    let scaled = form.k4 * 100000 * unit in
    let least : 1 ≤ scaled / (high - unit) =
    le-div 1 scaled (high - unit) (omega (arith, power.above_one, power.ordered)) (omega (arith, mul-le-mul_right unit some, at_most)) in
    omega (arith, least)

-- the upper end fits into forty bits, where the power is not too near to 1
pub upper_small : (form : CurveForm) (unit low high : ℕ) → form.c4 ≤ 10000 → unit < low → form.k4 * unit ≤ 8000000 * (low - unit)
    → (ends_between form unit low high).upper < 2 ^ 40
upper_small form unit low high small above_one steep =
    plain (div_ceil (form.k4 * 100000 * unit) (low - unit)) form.c4
    (ceil_least (form.k4 * 100000 * unit) (low - unit) 800000000000 (omega (arith, above_one)) (omega (arith, steep))) small
  where
    plain : (x c : ℕ) → x ≤ 800000000000 → c ≤ 10000 → x + c * 100000 < 2 ^ 40
    plain x c p q = omega arith

-- ---- the fall

-- a larger power has more above one
grows_above : (u p u' p' : ℕ) → u ≤ p → u' ≤ p' → p * u' ≤ p' * u → (p - u) * u' ≤ (p' - u') * u
grows_above u p u' p' above above' grows =
    let parts : p ≡ u + (p - u) = omega (arith, above) in
    let parts' : p' ≡ u' + (p' - u') = omega (arith, above') in
    omega (arith, ap (λ x. x * u') parts, ap (λ x. x * u) parts', grows)

floor_falls : (k u p u' p' : ℕ) → 0 < u' → u < p → u' < p' → p * u' ≤ p' * u → k * u' / (p' - u') ≤ k * u / (p - u)
floor_falls k u p u' p' some above above' grows =
    le-div _ (k * u) (p - u) (omega (arith, above))
    (joined (k * u' / (p' - u')) (p - u) (p' - u') (grows_above u p u' p' (omega (arith, above)) (omega (arith, above')) grows) (floor_within (k * u') (p' - u')))
  where
    joined : (n d d' : ℕ) → d * u' ≤ d' * u → n * d' ≤ k * u' → n * d ≤ k * u
    joined n d d' wider within = le_of_mul-le-mul_right {k = u'} (omega (arith, mul-le-mul_left n wider, mul-le-mul_right u within)) some

ceil_falls : (k u p u' p' : ℕ) → 0 < u → u < p → u' < p' → p * u' ≤ p' * u → div_ceil (k * u') (p' - u') ≤ div_ceil (k * u) (p - u)
ceil_falls k u p u' p' some above above' grows =
    ceil_least (k * u') (p' - u') _ (omega (arith, above'))
    (joined (div_ceil (k * u) (p - u)) (p - u) (p' - u') (grows_above u p u' p' (omega (arith, above)) (omega (arith, above')) grows)
    (ceil_covers (k * u) (p - u) (omega (arith, above))))
  where
    joined : (n d d' : ℕ) → d * u' ≤ d' * u → k * u ≤ n * d → k * u' ≤ n * d'
    joined n d d' wider covers = le_of_mul-le-mul_right {k = u} (omega (arith, mul-le-mul_left n wider, mul-le-mul_right u' covers)) some

-- neither end rises as the power grows
pub ends_fall : (form : CurveForm) (m m' : Multiple) (u l h u' l' h' : ℕ) → HasPower form m u l h → HasPower form m' u' l' h'
    → l * u' ≤ l' * u → h * u' ≤ h' * u → IsNotAbove (ends_between form u' l' h') (ends_between form u l h)
ends_fall form m m' u l h u' l' h' power power' low_grows high_grows = record {
  lower = plain _ _ (constant_ns form) (floor_falls (form.k4 * 100000) u h u' h' power'.some_unit
      (omega (arith, power.above_one, power.ordered)) (omega (arith, power'.above_one, power'.ordered)) high_grows);
  upper = plain _ _ (constant_ns form) (ceil_falls (form.k4 * 100000) u l u' l' power.some_unit power.above_one power'.above_one low_grows);
}
  where
    plain : (x y c : ℕ) → x ≤ y → x + c ≤ y + c
    plain x y c p = omega arith
