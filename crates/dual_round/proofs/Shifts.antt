-- What the code's shifts and cap come to.
use Rattle.std.proofs.Common.{◌≡◌, ◌≤◌, ◌<◌, ◌^◌, ℕ, ◌-◌, ◌*◌, ◌%◌, ℤ, pos, negsuc, ◌+ℤ◌, FitsSigned, to_z, of_z, arith, ◌∙◌, ap, refl}
use Rattle.std.proofs.lemmas.Int.{ints, to_z-of_z}
use Rattle.std.specs.Int.{int_max, int_min}
use Rattle.std.specs.Int.RustNames.{unsigned_abs}
use Rattle.std.specs.Int.Signed.{mag_shr, shr_z}
use Rattle.std.proofs.Math.Nat.{pow-le-pow_right}
use mir.Syntax.{w128}
use Rattle.dual_round.specs.Scaled.{within_32_bits, rounded_weight}

-- the cap on both sides, without its sign
capped : (z r top : ℤ) → r ≡ int_max (pos 0) (int_min z top) → top ≡ pos 4294967295 → unsigned_abs r ≡ within_32_bits z
capped (pos n) r top is at = rw (is, at) (grind arith)
capped (negsuc n) r top is at = rw (is, at) refl

-- half a unit fits
half_fits : (places : ℕ) → 1 ≤ places → places ≤ 64 → 2 ^ (places - 1) ≤ 2 ^ 63
half_fits places some most = pow-le-pow_right {n = 2} (omega arith) {i = places - 1} {j = 63} (omega arith)

-- a shifted 1 is a power
half_is : (places : ℕ) → 1 ≤ places → places ≤ 64 → to_z w128 (1 * 2 ^ (places - 1) % 340282366920938463463374607431768211456) ≡ pos (2 ^ (places - 1))
half_is places some most =
    let small : 2 ^ (places - 1) ≤ 2 ^ 63 = half_fits places some most in
    omega (arith, ints)

-- a sum that fits, shifted
shifted : (v half : ℤ) (k : ℕ) → FitsSigned w128 v → FitsSigned w128 (v +ℤ half)
    → to_z w128 (of_z w128 (shr_z (to_z w128 (of_z w128 (to_z w128 (of_z w128 v) +ℤ half))) k)) ≡ shr_z (v +ℤ half) k
shifted v half k fits whole =
    let down : FitsSigned w128 (shr_z (v +ℤ half) k) = record { sfits = omega (arith, mag_shr (v +ℤ half) k, whole.sfits) } in
    ap (λ x. to_z w128 (of_z w128 (shr_z (to_z w128 (of_z w128 (x +ℤ half))) k))) (to_z-of_z w128 v fits)
    ∙ ap (λ x. to_z w128 (of_z w128 (shr_z x k))) (to_z-of_z w128 (v +ℤ half) whole) ∙ to_z-of_z w128 (shr_z (v +ℤ half) k) down

-- the code's number is the weight
pub weight_is : (v half r top : ℤ) (places : ℕ) → FitsSigned w128 v → unsigned_abs v < 2 ^ 126 → 1 ≤ places → places ≤ 64
    → half ≡ to_z w128 (1 * 2 ^ (places - 1) % 340282366920938463463374607431768211456)
    → r ≡ int_max (pos 0) (int_min (to_z w128 (of_z w128 (shr_z (to_z w128 (of_z w128 (to_z w128 (of_z w128 v) +ℤ half))) (2 ^ places)))) top)
    → top ≡ pos 4294967295 → FitsSigned w128 r → unsigned_abs (to_z w128 (of_z w128 r)) ≡ rounded_weight places v
weight_is v half r top places fits small some most halved is at fits_too =
    let power : half ≡ pos (2 ^ (places - 1)) = halved ∙ half_is places some most in
    let short : 2 ^ (places - 1) ≤ 2 ^ 63 = half_fits places some most in
    let whole : FitsSigned w128 (v +ℤ half) = search (arith, ints) in
    ap unsigned_abs (to_z-of_z w128 r fits_too) ∙ capped _ r top is at
    ∙ ap within_32_bits (shifted v half (2 ^ places) fits whole ∙ ap (λ x. shr_z (v +ℤ x) (2 ^ places)) power)
