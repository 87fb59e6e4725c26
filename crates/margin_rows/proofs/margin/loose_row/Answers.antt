use Rattle.std.specs.Prelude.{ℤ, pos, ◌≤ℤ◌}
use mir.Syntax.{w64}
use mir.Val.{SFits}
use Rattle.std.proofs.Common.{◌∙◌, ℕ, ap, subst, sym, rules}
use Rattle.std.proofs.lemmas.Int.{to_z-of_z}
use Rattle.coord_model.specs.Choice.{choice_data}
use Rattle.margin_rows.specs.Case.{row_at}
use Rattle.margin_rows.specs.Margin.{greatest_ps, margin_of}
use Rattle.margin_rows.proofs.Boxed.{row_meets}
use Rattle.margin_rows.proofs.Listed.{at_number}
use Rattle.margin_rows.proofs.Placed.{margin_sign}
use Rattle.margin_rows.proofs.margin.loose_row.Goals as goal

pub returns-clause-kept : goal.returns-clause-kept
returns-clause-kept c keeps =
    let case = c.args.inst.now in
    let settings = choice_data c.args.choice.now in
    let r = row_at case c.args.row in
    let fits : SFits w64 c.row_margin.result = search rules in
    let times = c.set_times-times in
    let exact = to_z-of_z w64 c.row_margin.result fits ∙ c.row_margin.ensures.exact ∙ ap (λ (t : ℕ). margin_of case.study r t times.result.primary.lower) times.ensures.backup.upper
    ∙ ap (λ (t : ℕ). margin_of case.study r (greatest_ps case settings r.fault r.backup) t) times.ensures.primary.lower in
    let P : ℤ → Type 0 = λ z. pos 0 ≤ℤ z in
    subst P (sym exact) ((margin_sign case.study r _ _).1 (row_meets case settings r c.row_margin.ensures.fits c.requires.first_box (at_number case c.args.row c.requires.row) keeps))
