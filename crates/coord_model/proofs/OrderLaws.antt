-- Under and over, from their definitions alone.
use Rattle.std.proofs.Common.{ℕ, zero, suc, ◌+◌, ◌-◌, ◌*◌, ◌^◌, ◌<◌, ◌≤◌, ◌≡◌, arith, inl, inr}
use Rattle.std.proofs.Math.Nat.{le_of_mul-le-mul_right, mul-le-mul_left, mul-le-mul_right, mul-lt-mul_of_pos_left, one-le-pow, pow-lt-pow_left, pow-suc, pow-zero}
use Rattle.std.proofs.lemmas.Bool.{cases_lt}
use Rattle.std.proofs.lemmas.Nat.{mul-le, mul-pow}
use Rattle.coord_model.specs.Enclosure.{IsEnclosable}
use Rattle.coord_model.specs.Order.{IsFalling, UnderIsAtMostOver}
use Rattle.coord_model.specs.Time.{Multiple, excess, IsOver}
use Rattle.coord_model.specs.declared.curve.CurveForm.{CurveForm}

-- ---- order

-- x is under and y over: the excesses of n/q and n'/q', where a and b are the powers of the multiple's numbers
excess_ordered : (a b k x q y q' h : ℕ) → 0 < b → 1 ≤ h → 1 ≤ k
    → a * x ^ h ≤ b * (x + k * q) ^ h → b * (y + k * q') ^ h ≤ a * y ^ h → x * q' ≤ y * q
excess_ordered a b k x q y q' h some_b some_h some_k under over =
    elim (cases_lt (y * q) (x * q')) [
      | inr right ↦ right
      | inl wrong ↦
          let cross : (x + k * q) * y < (y + k * q') * x = omega (arith, mul-lt-mul_of_pos_left {k = k} wrong (omega (arith, some_k))) in
          let powers : (x + k * q) ^ h * y ^ h < (y + k * q') ^ h * x ^ h =
          rw (← mul-pow (x + k * q) y h, ← mul-pow (y + k * q') x h) (pow-lt-pow_left cross (λ none. omega (arith, some_h))) in
          absurd (against (x ^ h) ((x + k * q) ^ h) (y ^ h) ((y + k * q') ^ h) under over powers)
    ]
  where
    against : (s t u v : ℕ) → a * s ≤ b * t → b * v ≤ a * u → t * u < v * s → ⊥
    against s t u v under over cross =
        omega (arith, mul-le-mul_right u under, mul-le-mul_right s over, mul-lt-mul_of_pos_left {k = b} cross some_b)

-- from the excesses to the numbers
numbers_ordered : (c n q n' q' : ℕ) → c * q' < 10000 * n' → (10000 * n - c * q) * q' ≤ (10000 * n' - c * q') * q → n * q' ≤ n' * q
numbers_ordered c n q n' q' past ordered =
    let y = 10000 * n' - c * q' in
    let parts : y + c * q' ≡ 10000 * n' = omega (arith, past) in
    let x = 10000 * n - c * q in
    let most : 10000 * n ≤ x + c * q = omega arith in
    joined x y most parts ordered
  where
    joined : (x y : ℕ) → 10000 * n ≤ x + c * q → y + c * q' ≡ 10000 * n' → x * q' ≤ y * q → n * q' ≤ n' * q
    joined x y most parts ordered =
        let scaled : (10000 * n) * q' ≤ (10000 * n') * q = rw (← parts) (omega (arith, mul-le-mul_right q' most, ordered)) in
        omega (arith, scaled)

-- ---- numbers over

-- s^h times what is left of s is at most x^h times s, where x is s less k
kept : (x k h : ℕ) → (x + k) ^ h * (x + k) ≤ x ^ h * (x + k) + (x + k) ^ h * (h * k)
kept x k zero = rw (pow-zero (x + k), pow-zero x) (omega arith)
kept x k (suc h) =
    rw (pow-suc x h, pow-suc (x + k) h) (step (x ^ h) ((x + k) ^ h) (kept x k h))
  where
    step : (p s : ℕ) → s * (x + k) ≤ p * (x + k) + s * (h * k) → s * (x + k) * (x + k) ≤ p * x * (x + k) + s * (x + k) * (suc h * k)
    step p s before = omega (arith, mul-le-mul_right x before, mul-le-mul_left (s * (h * k)) within)
      where
        within : x ≤ x + k
        within = omega arith

-- far enough above, a number is over
far_over : (a b x k h : ℕ) → b < a → 0 < x → h * k * (b + 1) ≤ x + k → b * (x + k) ^ h ≤ a * x ^ h
far_over a b x k h above some far =
    le_of_mul-le-mul_right {k = x + k} (plain (x ^ h) ((x + k) ^ h) (x + k) (h * k) far (kept x k h)) (omega (arith, some))
  where
    plain : (p s t d : ℕ) → d * (b + 1) ≤ t → s * t ≤ p * t + s * d → b * s * t ≤ a * p * t
    plain p s t d far near = omega (arith, mul-le-mul_left (b + 1) near, mul-le-mul_left s far, mul-le-mul_right (p * t) above)

-- the number that is over, by the curve's numbers and the power b of the multiple's denominator
abbrev number_over : ℕ → ℕ → ℕ → ℕ → ℕ → ℕ
number_over k c h b q = h * (k * q) * (b + 1) + c * q

is_over : (form : CurveForm) (m : Multiple) (q : ℕ) → IsFalling form → IsEnclosable m → 0 < q
    → IsOver form m (number_over form.k4 form.c4 form.h (m.den ^ form.e) q) q
is_over form m q falling enclosable some = record {
  past_constant = past;
  reaches = far_over (m.num ^ form.e) (m.den ^ form.e) (excess form (number_over form.k4 form.c4 form.h (m.den ^ form.e) q) q) (form.k4 * q) form.h
      above (omega (arith, past)) far;
}
  where
    above : m.den ^ form.e < m.num ^ form.e
    above = pow-lt-pow_left (omega (arith, enclosable.some, enclosable.above_one)) (λ none. omega (arith, falling.some_e))

    positive : 1 ≤ form.h * (form.k4 * q) * (m.den ^ form.e + 1)
    positive =
        let kq : 1 * 1 ≤ form.k4 * q = mul-le 1 1 form.k4 q falling.some_k some in
        let hkq : 1 * 1 ≤ form.h * (form.k4 * q) = mul-le 1 1 form.h (form.k4 * q) falling.some_h kq in
        mul-le 1 1 (form.h * (form.k4 * q)) (m.den ^ form.e + 1) hkq (omega arith)

    past : form.c4 * q < 10000 * number_over form.k4 form.c4 form.h (m.den ^ form.e) q
    past = plain (form.c4 * q) (form.h * (form.k4 * q) * (m.den ^ form.e + 1)) positive
      where
        plain : (c t : ℕ) → 1 ≤ t → c < 10000 * (t + c)
        plain c t p = omega arith

    far : form.h * (form.k4 * q) * (m.den ^ form.e + 1) ≤ excess form (number_over form.k4 form.c4 form.h (m.den ^ form.e) q) q + form.k4 * q
    far = plain (form.c4 * q) (form.h * (form.k4 * q) * (m.den ^ form.e + 1)) (form.k4 * q)
      where
        plain : (c t r : ℕ) → t ≤ 10000 * (t + c) - c + r
        plain c t r = omega arith

-- no time at all is under
none_under : (a b x y h : ℕ) → x ≡ 0 → 1 ≤ h → a * x ^ h ≤ b * y
none_under a b x y zero none some = absurd (omega (arith, some))
none_under a b x y (suc h) none some = rw (pow-suc x h, none) (omega arith)

pub under_is_at_most_over : UnderIsAtMostOver
under_is_at_most_over = record {
  some_under = λ form m q falling enclosable some.
      (0, none_under (m.num ^ form.e) (m.den ^ form.e) (excess form 0 q) ((excess form 0 q + form.k4 * q) ^ form.h) form.h (omega arith) falling.some_h);
  some_over = λ form m q falling enclosable some.
      (number_over form.k4 form.c4 form.h (m.den ^ form.e) q, is_over form m q falling enclosable some);
  ordered = λ form m n q n' q' falling enclosable under over.
      numbers_ordered form.c4 n q n' q' over.past_constant
      (excess_ordered (m.num ^ form.e) (m.den ^ form.e) form.k4 (excess form n q) q (excess form n' q') q' form.h
      (one-le-pow form.e m.den enclosable.some) falling.some_h falling.some_k under over.reaches);
}
