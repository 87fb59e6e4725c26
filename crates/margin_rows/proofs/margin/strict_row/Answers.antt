use Rattle.std.specs.Prelude.{ℤ, pos, ◌≤ℤ◌, ◌+ℤ◌}
use mir.Syntax.{w64}
use mir.Val.{SFits, to_z, of_z}
use Rattle.std.proofs.Common.{sym, ◌∙◌, ◌≡◌, ℕ, ap, subst, rules}
use Rattle.std.proofs.lemmas.Int.{to_z-of_z}
use Rattle.coord_model.specs.Choice.{choice_data}
use Rattle.margin_rows.specs.Case.{row_at}
use Rattle.margin_rows.specs.Margin.{least_ps, margin_of, loose_margin, strict_margin, row_width}
use Rattle.margin_rows.proofs.Boxed.{row_keeps, row_near}
use Rattle.margin_rows.proofs.Listed.{at_number}
use Rattle.margin_rows.proofs.Placed.{margin_sign}
use Rattle.margin_rows.proofs.margin.strict_row.Goals as goal

-- the result is the strict margin
exact : (c : goal.After-row_margin) → to_z w64 (of_z w64 c.row_margin.result) ≡ strict_margin c.args.inst.now (choice_data c.args.choice.now) (row_at c.args.inst.now c.args.row)
unfolding strict_margin
exact c =
    let case = c.args.inst.now in
    let settings = choice_data c.args.choice.now in
    let r = row_at case c.args.row in
    let fits : SFits w64 c.row_margin.result = search rules in
    let times = c.set_times-times in
    to_z-of_z w64 c.row_margin.result fits ∙ c.row_margin.ensures.exact ∙ ap (λ (t : ℕ). margin_of case.study r t times.result.primary.upper) times.ensures.backup.lower
    ∙ ap (λ (t : ℕ). margin_of case.study r (least_ps case settings r.fault r.backup) t) times.ensures.primary.upper

pub returns-clause-near : goal.returns-clause-near
returns-clause-near c =
    let case = c.args.inst.now in
    let settings = choice_data c.args.choice.now in
    let r = row_at case c.args.row in
    let P : ℤ → Type 0 = λ z. loose_margin case settings r ≤ℤ (z +ℤ pos (row_width case settings r)) in
    subst P (sym (exact c)) (row_near case settings r c.row_margin.ensures.fits c.requires.first_box (at_number case c.args.row c.requires.row))

pub returns-clause-keeps : goal.returns-clause-keeps
unfolding strict_margin
returns-clause-keeps c above =
    let case = c.args.inst.now in
    let settings = choice_data c.args.choice.now in
    let r = row_at case c.args.row in
    let P : ℤ → Type 0 = λ z. pos 0 ≤ℤ z in
    row_keeps case settings r c.row_margin.ensures.fits c.requires.first_box (at_number case c.args.row c.requires.row)
    ((margin_sign case.study r _ _).0 (subst P (exact c) above))
