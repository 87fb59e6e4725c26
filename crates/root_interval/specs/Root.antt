-- The ends of the 50th root of a multiple num/den. Ours: that they are the best that the powers show.
use Rattle.std.specs.Prelude.{ℕ, zero, suc, Bool, ◌+◌, ◌-◌, ◌*◌, ◌^◌, ◌≤◌, nat_le, if◌then◌else◌}
use Rattle.root_interval.specs.Product.{one}
use Rattle.root_interval.specs.Power.{last, IsInRange, pow50_down, pow50_up}

-- r is seen to be at most the root: its power, rounded up, is at most the multiple
pub record IsAtMostRoot (num den r : ℕ) : Type 0 where
  pub in_range : IsInRange r
  pub meets : pow50_up r * den ≤ num * one

-- r is seen to be at least the root: its power, rounded down, is at least the multiple
pub record IsAtLeastRoot (num den r : ℕ) : Type 0 where
  pub in_range : IsInRange r
  pub meets : num * one ≤ pow50_down r * den

-- the greatest number that is seen to be at most the root
pub record IsLowEnd (num den low : ℕ) : Type 0 where
  pub at_most : IsAtMostRoot num den low
  pub greatest : (r : ℕ) → IsAtMostRoot num den r → r ≤ low

-- the least number that is seen to be at least the root
pub record IsHighEnd (num den high : ℕ) : Type 0 where
  pub at_least : IsAtLeastRoot num den high
  pub least : (r : ℕ) → IsAtLeastRoot num den r → high ≤ r

-- the greatest number up to n that passes a test, and 0 where none does
unfoldable pub greatest : (ℕ → Bool) → ℕ → ℕ
greatest passes zero = 0
greatest passes (suc n) = if passes (suc n) then suc n else greatest passes n

-- the low end, counted up from one
unfoldable pub low_end : ℕ → ℕ → ℕ
low_end num den = one + greatest (λ k. nat_le (pow50_up (one + k) * den) (num * one)) (2 ^ 53)

-- the high end, counted down from nine eighths
unfoldable pub high_end : ℕ → ℕ → ℕ
high_end num den = last - greatest (λ k. nat_le (num * one) (pow50_down (last - k) * den)) (2 ^ 53)

-- where num/den is at most num'/den', no end of num'/den' is below that end of num/den
pub record NeverFalls : Type 0 where
  pub low : (num den num' den' : ℕ) → 1 ≤ den → den ≤ num → num * den' ≤ num' * den → low_end num den ≤ low_end num' den'
  pub high : (num den num' den' : ℕ) → 1 ≤ den' → num' ≤ 30 * den' → num * den' ≤ num' * den → high_end num den ≤ high_end num' den'
