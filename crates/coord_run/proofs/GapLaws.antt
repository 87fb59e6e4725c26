-- The gap that is searched with.
use Rattle.std.specs.Int.{div_ceil}
use Rattle.std.proofs.Common.{◌≡◌, ◌∙◌, ℕ, ◌+◌, ◌^◌, ◌<◌, ◌≤◌, Option, Some, None, IfSome, ap, arith, sym, subst}
use Rattle.coord_words.specs.OptionNumbers.{IsGap}
use Rattle.coord_run.specs.Solve.{IsGapFor}
use Rattle.margin_rows.proofs.SmallGaps.{width_sum_few}
use Rattle.margin_rows.proofs.Widths.{sum_is_one}
use Rattle.margin_rows.specs.Case.{Case, FitsCase, terms_in}
use Rattle.margin_rows.specs.Gap.{IsLeastGap}

-- a case has one least gap
pub one_least : (case : Case) (a b : ℕ) → IsLeastGap case a → IsLeastGap case b → a ≡ b
one_least case a b x y = x.2 ∙ ap (λ (sum : ℕ). div_ceil sum 1000000 + 1) (sum_is_one case (terms_in case) x.0 y.0 x.1 y.1) ∙ sym y.2

-- only a gap that is given is below the least gap
pub given_below : (case : Case) (given : Option ℕ) (gap least : ℕ) → IsGapFor case given gap → IsLeastGap case least → gap < least → given ≡ Some gap
given_below case (Some n) gap least is is_least below = ap Some (sym is)
given_below case None gap least is is_least below =
    let same = one_least case is.0 least is.1 is_least in
    absurd (omega (arith, same, below, is.2))

-- a gap that is searched with is from 1 to 10^12
pub gap_within : (case : Case) (given : Option ℕ) (gap : ℕ) → FitsCase case → IfSome given IsGap → IsGapFor case given gap → (1 ≤ gap) × (gap ≤ 10 ^ 12)
gap_within case (Some n) gap fits within is = (omega (arith, within.0, is), omega (arith, within.1, is))
gap_within case None gap fits within is =
    let few : is.0 ≤ 10 ^ 12 = subst (λ (n : ℕ). n ≤ 10 ^ 12) (sym is.1.2) (width_sum_few case is.1.0 fits is.1.1) in
    (omega (arith, is.2), omega (arith, is.2, few))
