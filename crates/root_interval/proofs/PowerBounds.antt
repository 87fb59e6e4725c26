-- How far the products of a 50th power can grow from nine eighths on, so that each next one fits.
use Rattle.std.proofs.Common.{ℕ, ◌+◌, ◌*◌, ◌<◌, ◌≤◌, ◌^◌, arith}
use Rattle.std.proofs.lemmas.Nat.{mul-le}
use Rattle.root_interval.specs.Product.{one, mul_down, mul_up}
use Rattle.root_interval.proofs.ProductLaws.{mul_down-bounds, mul_up-bounds}

mul_up-within : (a b c d k : ℕ) → a ≤ c → b ≤ d → c * d ≤ k * one → mul_up a b ≤ k
mul_up-within a b c d k p q r = omega (arith, mul-le a b c d p q, mul_up-bounds a b)

pub down_le_up : (a b : ℕ) → mul_down a b ≤ mul_up a b
down_le_up a b = omega (arith, mul_down-bounds a b, mul_up-bounds a b)

pub r2_up : (a : ℕ) → a ≤ one + 2 ^ 53 → mul_up a a ≤ 11 * 2 ^ 53
r2_up a h = mul_up-within a a (one + 2 ^ 53) (one + 2 ^ 53) (11 * 2 ^ 53) h h (omega arith)

pub r4_up : (a : ℕ) → a ≤ 11 * 2 ^ 53 → mul_up a a ≤ 2 ^ 57
r4_up a h = mul_up-within a a (11 * 2 ^ 53) (11 * 2 ^ 53) (2 ^ 57) h h (omega arith)

pub r8_up : (a : ℕ) → a ≤ 2 ^ 57 → mul_up a a ≤ 2 ^ 58
r8_up a h = mul_up-within a a (2 ^ 57) (2 ^ 57) (2 ^ 58) h h (omega arith)

pub r16_up : (a : ℕ) → a ≤ 2 ^ 58 → mul_up a a ≤ 2 ^ 60
r16_up a h = mul_up-within a a (2 ^ 58) (2 ^ 58) (2 ^ 60) h h (omega arith)

pub r32_up : (a : ℕ) → a ≤ 2 ^ 60 → mul_up a a ≤ 2 ^ 64
r32_up a h = mul_up-within a a (2 ^ 60) (2 ^ 60) (2 ^ 64) h h (omega arith)

pub r48_up : (a b : ℕ) → a ≤ 2 ^ 64 → b ≤ 2 ^ 60 → mul_up a b ≤ 2 ^ 68
r48_up a b p q = mul_up-within a b (2 ^ 64) (2 ^ 60) (2 ^ 68) p q (omega arith)

pub r50_up : (a b : ℕ) → a ≤ 2 ^ 68 → b ≤ 11 * 2 ^ 53 → mul_up a b ≤ 2 ^ 69
r50_up a b p q = mul_up-within a b (2 ^ 68) (11 * 2 ^ 53) (2 ^ 69) p q (omega arith)

pub fits : (a b : ℕ) → a ≤ 2 ^ 64 → b ≤ 2 ^ 60 → a * b < 2 ^ 127
fits a b p q = omega (arith, mul-le a b (2 ^ 64) (2 ^ 60) p q)

pub fits_last : (a b : ℕ) → a ≤ 2 ^ 68 → b ≤ 11 * 2 ^ 53 → a * b < 2 ^ 127
fits_last a b p q = omega (arith, mul-le a b (2 ^ 68) (11 * 2 ^ 53) p q)

pub ruleset bounds = (r2_up, r4_up, r8_up, r16_up, r32_up, r48_up, r50_up, fits, fits_last, down_le_up)
