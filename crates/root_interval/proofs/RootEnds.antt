-- The ends as functions of the multiple, and their growth.
use Rattle.std.proofs.Common.{ℕ, zero, suc, ◌+◌, ◌-◌, ◌*◌, ◌^◌, ◌<◌, ◌≤◌, Bool, true, false, nat_le, if◌then◌else◌, ◌≡◌, refl, sym, ap, subst, ◌∙◌, arith, inl, inr}
use Rattle.std.proofs.Math.Nat.{mul-le-mul_right, le_of_mul-le-mul_right, le_antisymm}
use Rattle.std.proofs.lemmas.Bool.{cases_lt, leb-true, le-leb}
use Rattle.root_interval.specs.Product.{one}
use Rattle.root_interval.specs.Power.{last, pow50_down, pow50_up}
use Rattle.root_interval.specs.Root.{IsAtMostRoot, IsAtLeastRoot, IsLowEnd, IsHighEnd, greatest, low_end, high_end, NeverFalls}
use Rattle.root_interval.proofs.RootLaws.{one_is_at_most, last_is_at_least}

-- what holds of the greatest number up to n that passes a test
pub record IsGreatest (passes : ℕ → Bool) (n g : ℕ) : Type 0 where
  pub within : g ≤ n
  pub passing : passes 0 ≡ true → passes g ≡ true
  pub above : (k : ℕ) → k ≤ n → passes k ≡ true → k ≤ g

one_more : (passes : ℕ → Bool) (n g : ℕ) (b : Bool) → passes (suc n) ≡ b → IsGreatest passes n g → IsGreatest passes (suc n) (if b then suc n else g)
one_more passes n g true e h = record { within = omega arith; passing = λ _. e; above = λ k p _. p }
one_more passes n g false e h = record {
  within = omega (arith, h.within);
  passing = h.passing;
  above = λ k p q.
      elim (cases_lt n k) [
        | inl more ↦ let same : k ≡ suc n = omega arith in absurd (let both = sym e ∙ ap passes (sym same) ∙ q in cc)
        | inr less ↦ h.above k less q
      ];
}

pub is_greatest : (passes : ℕ → Bool) (n : ℕ) → IsGreatest passes n (greatest passes n)
unfolding greatest
is_greatest passes zero = record { within = omega arith; passing = λ p. p; above = λ k p _. p }
is_greatest passes (suc n) = one_more passes n (greatest passes n) (passes (suc n)) refl (is_greatest passes n)

-- ---- the low end

-- the number at k above one is seen to be at most the root
abbrev above_one_passes : ℕ → ℕ → ℕ → Bool
above_one_passes num den k = nat_le (pow50_up (one + k) * den) (num * one)

low_end-at : (num den k : ℕ) → k ≤ 2 ^ 53 → pow50_up (one + k) * den ≤ num * one → one + k ≤ low_end num den
unfolding low_end
low_end-at num den k in_range meets =
    omega (arith, (is_greatest (above_one_passes num den) (2 ^ 53)).above k in_range (le-leb _ _ meets))

pub low_end-above : (num den r : ℕ) → IsAtMostRoot num den r → r ≤ low_end num den
low_end-above num den r h =
    let in_range = h.in_range in
    let same : one + (r - one) ≡ r = omega arith in
    subst (λ x. pow50_up x * den ≤ num * one → x ≤ low_end num den) same (low_end-at num den (r - one) (omega arith)) h.meets

pub is_low_end : (num den : ℕ) → den ≤ num → IsLowEnd num den (low_end num den)
unfolding low_end
is_low_end num den above_one =
    let top = is_greatest (above_one_passes num den) (2 ^ 53) in
    let start = one_is_at_most num den above_one in
    record {
      at_most = record { in_range = (omega arith, omega arith); meets = leb-true _ _ (top.passing (le-leb _ _ start.meets)) };
      greatest = low_end-above num den;
    }

-- ---- the high end

-- the number at k below nine eighths is seen to be at least the root
abbrev below_last_passes : ℕ → ℕ → ℕ → Bool
below_last_passes num den k = nat_le (num * one) (pow50_down (last - k) * den)

high_end-at : (num den k : ℕ) → k ≤ 2 ^ 53 → num * one ≤ pow50_down (last - k) * den → high_end num den ≤ last - k
unfolding high_end
high_end-at num den k in_range meets =
    omega (arith, (is_greatest (below_last_passes num den) (2 ^ 53)).above k in_range (le-leb _ _ meets))

pub high_end-below : (num den r : ℕ) → IsAtLeastRoot num den r → high_end num den ≤ r
high_end-below num den r h =
    let in_range = h.in_range in
    let same : last - (last - r) ≡ r = omega arith in
    subst (λ x. num * one ≤ pow50_down x * den → high_end num den ≤ x) same (high_end-at num den (last - r) (omega arith)) h.meets

pub is_high_end : (num den : ℕ) → num ≤ 30 * den → IsHighEnd num den (high_end num den)
unfolding high_end
is_high_end num den below_thirty =
    let top = is_greatest (below_last_passes num den) (2 ^ 53) in
    let start = last_is_at_least num den below_thirty in
    record {
      at_least = record { in_range = (omega arith, omega arith); meets = leb-true _ _ (top.passing (le-leb _ _ start.meets)) };
      least = high_end-below num den;
    }

-- ---- no other number is an end

pub low_end-only : (num den low : ℕ) → den ≤ num → IsLowEnd num den low → low ≡ low_end num den
low_end-only num den low above_one h =
    le_antisymm (low_end-above num den low h.at_most) (h.greatest _ (is_low_end num den above_one).at_most)

pub high_end-only : (num den high : ℕ) → num ≤ 30 * den → IsHighEnd num den high → high ≡ high_end num den
high_end-only num den high below_thirty h =
    le_antisymm (h.least _ (is_high_end num den below_thirty).at_least) (high_end-below num den high h.at_least)

-- ---- growth

-- p is a power that is at most num/den, and so at most num'/den'
carries : (u p num den num' den' : ℕ) → 0 < den → num * den' ≤ num' * den → p * den ≤ num * u → p * den' ≤ num' * u
carries u p num den num' den' some grows meets =
    le_of_mul-le-mul_right {k = den} (omega (arith, mul-le-mul_right den' meets, mul-le-mul_right u grows)) some

carries_back : (u p num den num' den' : ℕ) → 0 < den' → num * den' ≤ num' * den → num' * u ≤ p * den' → num * u ≤ p * den
carries_back u p num den num' den' some grows meets =
    le_of_mul-le-mul_right {k = den'} (omega (arith, mul-le-mul_right den meets, mul-le-mul_right u grows)) some

pub never_falls : NeverFalls
never_falls = record {
  low = λ num den num' den' some above_one grows.
      let is_low = is_low_end num den above_one in
      low_end-above num' den' (low_end num den) (record {
        in_range = is_low.at_most.in_range;
        meets = carries one (pow50_up (low_end num den)) num den num' den' some grows is_low.at_most.meets;
      });
  high = λ num den num' den' some below_thirty grows.
      let is_high = is_high_end num' den' below_thirty in
      high_end-below num den (high_end num' den') (record {
        in_range = is_high.at_least.in_range;
        meets = carries_back one (pow50_down (high_end num' den')) num den num' den' some grows is_high.at_least.meets;
      });
}
