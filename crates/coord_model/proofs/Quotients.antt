-- Quotients rounded down and rounded up.
use Rattle.std.proofs.Common.{ℕ, ◌+◌, ◌*◌, ◌/◌, ◌<◌, ◌≤◌, arith, inl, inr}
use Rattle.std.proofs.Math.Nat.{div-mul-le_self, mul-le-mul_right}
use Rattle.std.proofs.lemmas.Bool.{cases_lt}
use Rattle.std.proofs.lemmas.Grind.{div_ceil_times}
use Rattle.std.proofs.lemmas.Nat.{le-div}
use Rattle.std.specs.Int.{div_ceil}

-- no more than the number that it divides
pub floor_within : (a b : ℕ) → a / b * b ≤ a
floor_within a b = div-mul-le_self a b

-- the next multiple is past the number
pub floor_near : (a b : ℕ) → 0 < b → a < (a / b + 1) * b
floor_near a b some =
    elim (cases_lt a ((a / b + 1) * b)) [
      | inl near ↦ near
      | inr far ↦ absurd (let more : a / b + 1 ≤ a / b = le-div (a / b + 1) a b some far in omega arith)
    ]

-- rounded up it covers the number
pub ceil_covers : (a b : ℕ) → 0 < b → a ≤ div_ceil a b * b
ceil_covers a b some = (div_ceil_times a b some).0

-- the least that covers the number
pub ceil_least : (a b x : ℕ) → 0 < b → a ≤ x * b → div_ceil a b ≤ x
ceil_least a b x some covers =
    elim (cases_lt x (div_ceil a b)) [
      | inl above ↦ absurd (
          let more : (x + 1) * b ≤ div_ceil a b * b = mul-le-mul_right b (omega (arith, above)) in
          omega (arith, more, covers, (div_ceil_times a b some).1)
          )
      | inr within ↦ within
    ]

-- of a number above 0 it is above 0
pub ceil_some : (a b : ℕ) → 0 < b → 0 < a → 0 < div_ceil a b
ceil_some a b some positive =
    elim (cases_lt 0 (div_ceil a b)) [
      | inl above ↦ above
      | inr none ↦ absurd (omega (arith, ceil_covers a b some, mul-le-mul_right b none, positive))
    ]

-- rounded up is at most one more than rounded down
pub ceil_next : (a b : ℕ) → 0 < b → div_ceil a b ≤ a / b + 1
ceil_next a b some = ceil_least a b (a / b + 1) some (omega (arith, floor_near a b some))

-- rounded down is at most rounded up
pub floor_ceil : (a b : ℕ) → 0 < b → a / b ≤ div_ceil a b
floor_ceil a b some = omega arith
