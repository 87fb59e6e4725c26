use Rattle.std.proofs.Common.{◌+◌, ◌≤◌, ◌^◌, ◌∙◌, ℕ, ap, sym, subst}
use Rattle.std.specs.Int.{div_ceil}
use Rattle.margin_rows.specs.Case.{terms_in}
use Rattle.margin_rows.specs.Price.{cost_of, lower_cost_of}
use Rattle.margin_rows.proofs.SmallGaps.{width_sum_few}
use Rattle.margin_rows.proofs.Widths.{gap_covers, sum_is_one}
use Rattle.margin_rows.proofs.gap.least_gap.Goals as goal

pub returns-clause-only : goal.returns-clause-only
returns-clause-only c gap least = least.2 ∙ ap (λ (sum : ℕ). div_ceil sum 1000000 + 1) (sum_is_one c.args.inst.now (terms_in c.args.inst.now) least.0 c.width_sum.result least.1 c.width_sum.ensures.exact) ∙ ap (λ (n : ℕ). n + 1) (sym c.div_ceil.ensures)

pub returns-clause-covers : goal.returns-clause-covers
returns-clause-covers c settings box =
    let case = c.args.inst.now in
    let P : ℕ → Type 0 = λ n. cost_of case settings ≤ lower_cost_of case settings + (n + 1) in
    subst P (sym c.div_ceil.ensures) (gap_covers case c.width_sum.result settings c.width_sum.ensures.exact box)

pub returns-clause-small : goal.returns-clause-small
returns-clause-small c =
    let P : ℕ → Type 0 = λ n. n + 1 ≤ 10 ^ 12 in
    subst P (sym c.div_ceil.ensures) (width_sum_few c.args.inst.now c.width_sum.result c.width_sum.ensures.fits c.width_sum.ensures.exact)
