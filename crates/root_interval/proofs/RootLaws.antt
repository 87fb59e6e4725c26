-- What the two ends of the root keep.
use Rattle.std.proofs.Common.{ℕ, ◌+◌, ◌*◌, ◌<◌, ◌≤◌, ◌^◌, suc, ◌≡◌, refl, arith, lit≤, lit<, inl, inr}
use Rattle.std.proofs.Math.Nat.{mul-le-mul_right, le_of_mul-le-mul_right, mul-lt-mul_of_pos_right, pow-lt-pow_left}
use Rattle.std.proofs.lemmas.Bool.{cases_lt}
use Rattle.root_interval.specs.Product.{one, mul_down, mul_up}
use Rattle.root_interval.specs.Power.{last, pow50, pow50_down, pow50_up}
use Rattle.root_interval.specs.Root.{IsAtMostRoot, IsAtLeastRoot, IsLowEnd, IsHighEnd}
use Rattle.root_interval.proofs.PowerLaws.{pow50_down-le, pow50_up-le, pow50_up-le-pow50_down, pow50_up-above, pow50_down-below}

-- ---- halving

-- a number that is at most the root is below each whose power, rounded up, is above the multiple
pub below_failing : (num den m r : ℕ) → num * one < pow50_up m * den → IsAtMostRoot num den r → r < m
below_failing num den m r fails h =
    elim (cases_lt r m) [
      | inl less ↦ less
      | inr more ↦ absurd (omega (arith, mul-le-mul_right den (pow50_up-le m r more), h.meets))
    ]

-- a number that is at least the root is above each whose power, rounded down, is below the multiple
pub above_failing : (num den m r : ℕ) → pow50_down m * den < num * one → IsAtLeastRoot num den r → m < r
above_failing num den m r fails h =
    elim (cases_lt m r) [
      | inl less ↦ less
      | inr more ↦ absurd (omega (arith, mul-le-mul_right den (pow50_down-le r m more), h.meets))
    ]

-- ---- where halving starts

pow50_up-one : pow50_up one ≡ one
unfolding pow50 mul_up
pow50_up-one = refl

pub one_is_at_most : (num den : ℕ) → den ≤ num → IsAtMostRoot num den one
one_is_at_most num den h = record {
  in_range = (omega arith, omega arith);
  meets = rw pow50_up-one (omega arith);
}

pow50_down-last : 30 * one ≤ pow50_down last
unfolding pow50 mul_down
pow50_down-last = lit≤ tt

pub last_is_at_least : (num den : ℕ) → num ≤ 30 * den → IsAtLeastRoot num den last
last_is_at_least num den h = record {
  in_range = (omega arith, omega arith);
  meets = omega (arith, mul-le-mul_right den pow50_down-last);
}

-- ---- where the low end lies

pow50_up-least : pow50_up (one + 3 * 2 ^ 44) * 100 ≤ 105 * one
unfolding pow50 mul_up
pow50_up-least = lit≤ tt

pub above_one : (num den low : ℕ) → 105 * den ≤ 100 * num → IsLowEnd num den low → one + 3 * 2 ^ 44 ≤ low
above_one num den low h end =
    end.greatest (one + 3 * 2 ^ 44) (record {
      in_range = (omega arith, omega arith);
      meets = omega (arith, mul-le-mul_right den pow50_up-least);
    })

-- ---- the ends and the root

-- u stands for one, v for its 50th power, x for the 50th power of the end, p for its rounded power
power_at_most : (u v x p num den : ℕ) → 0 < u → x * u ≤ p * v → p * den ≤ num * u → x * den ≤ num * v
power_at_most u v x p num den some over meets =
    le_of_mul-le-mul_right {k = u} (omega (arith, mul-le-mul_right den over, mul-le-mul_right v meets)) some

power_at_least : (u v x p num den : ℕ) → 0 < u → p * v ≤ x * u → num * u ≤ p * den → num * v ≤ x * den
power_at_least u v x p num den some under meets =
    le_of_mul-le-mul_right {k = u} (omega (arith, mul-le-mul_right den under, mul-le-mul_right v meets)) some

pub encloses_low : (num den low : ℕ) → IsLowEnd num den low → low ^ 50 * den ≤ num * 2 ^ 2800
encloses_low num den low end =
    power_at_most one (one ^ 50) (low ^ 50) (pow50_up low) num den (lit< tt) (pow50_up-above low) end.at_most.meets

pub encloses_high : (num den high : ℕ) → IsHighEnd num den high → num * 2 ^ 2800 ≤ high ^ 50 * den
encloses_high num den high end =
    power_at_least one (one ^ 50) (high ^ 50) (pow50_down high) num den (lit< tt) (pow50_down-below high) end.at_least.meets

-- numbers whose powers lie on the two sides of one number lie in order
powers_ordered : (k x y n den : ℕ) → 0 < den → x ^ suc k * den ≤ n → n ≤ y ^ suc k * den → x ≤ y
powers_ordered k x y n den some below above =
    elim (cases_lt y x) [
      | inl less ↦ absurd (omega (arith, mul-lt-mul_of_pos_right {k = den} (pow-lt-pow_left {n = suc k} less (λ e. cc)) some))
      | inr right ↦ right
    ]

pub ordered : (num den low high : ℕ) → 0 < den → IsLowEnd num den low → IsHighEnd num den high → low ≤ high
ordered num den low high some is_low is_high =
    powers_ordered 49 low high (num * 2 ^ 2800) den some (encloses_low num den low is_low) (encloses_high num den high is_high)

-- the number after the low end fails, so the second after it is at least the root
pub narrow : (num den low high : ℕ) → IsLowEnd num den low → IsHighEnd num den high → high ≤ low + 2
narrow num den low high is_low is_high =
    elim (cases_lt (low + 1) last) [
      | inr at_end ↦ omega (arith, is_high.at_least.in_range)
      | inl inside ↦
          elim (cases_lt (num * one) (pow50_up (low + 1) * den)) [
            | inl fails ↦ is_high.least (low + 2) (record {
              in_range = (omega (arith, is_low.at_most.in_range), omega arith);
              meets = omega (arith, mul-le-mul_right den (pow50_up-le-pow50_down (low + 1) (low + 2) (omega (arith, is_low.at_most.in_range)) (omega arith)));
            })
            | inr meets ↦ absurd (omega (
              arith,
              is_low.greatest (low + 1) (record {
                in_range = (omega (arith, is_low.at_most.in_range), omega arith);
                meets = meets;
              }),
            ))
          ]
    ]
