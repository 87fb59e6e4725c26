-- The powers of a multiple with a whole exponent.
use Rattle.std.proofs.Common.{ℕ, suc, ◌-◌, ◌*◌, ◌<◌, ◌≤◌, ◌^◌, ◌≡◌, arith, inl, inr, subst}
use Rattle.std.proofs.Math.Nat.{mul-le-mul_left, mul-le-mul_right, pow-le-pow_left, pow-le-pow_right, pow-suc}
use Rattle.std.proofs.lemmas.Nat.{mul-le}
use Rattle.coord_model.specs.CustomForm.{IsExponent}
use Rattle.coord_model.specs.declared.curve.CurveForm.{CurveForm}

-- a whole exponent is at most three
pub whole_exponent : (form : CurveForm) → form.h ≡ 1 → IsExponent form → form.e ≤ 3
whole_exponent form whole exponent = elim exponent [ inl is ↦ is.1 | inr root ↦ absurd (omega (arith, whole, root.0)) ]

-- a third power of a bounded number
pub power_small : (n e b : ℕ) → 1 ≤ b → n ≤ b → e ≤ 3 → n ^ e ≤ b ^ 3
power_small n e b some within few = omega (arith, pow-le-pow_left within e, pow-le-pow_right {n = b} some few)

pub product_small : (k power : ℕ) → k ≤ 10000000 → power ≤ 100000000 ^ 3 → k * 100000 * power < 2 ^ 127
product_small k power few small = omega (arith, mul-le k power 10000000 (100000000 ^ 3) few small)

-- a power of a multiple of at least 1.05 is at least that
far : (k num den : ℕ) → 105 * den ≤ 100 * num → 105 * den ^ suc k ≤ 100 * num ^ suc k
far k num den above =
    let next : den ^ suc k ≡ den ^ k * den = pow-suc den k in
    let next' : num ^ suc k ≡ num ^ k * num = pow-suc num k in
    let grown : den ^ k ≤ num ^ k = pow-le-pow_left (omega (arith, above)) k in
    omega (arith, next, next', mul-le-mul_left (den ^ k) above, mul-le-mul_right (100 * num) grown)

pub power_above : (e num den : ℕ) → 1 ≤ e → 105 * den ≤ 100 * num → 4097 * den ^ e ≤ 4096 * num ^ e
power_above e num den some above =
    let same : suc (e - 1) ≡ e = omega (arith, some) in
    let apart : 105 * den ^ e ≤ 100 * num ^ e = subst (λ k. 105 * den ^ k ≤ 100 * num ^ k) same (far (e - 1) num den above) in
    omega (arith, apart)
