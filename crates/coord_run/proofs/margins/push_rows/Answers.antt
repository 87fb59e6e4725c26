use Rattle.std.proofs.Common.{◌∙◌, ◌++◌, ◌<◌, List, ℕ, ap, arith, length}
use Rattle.coord_model.specs.Choice.{choice_data}
use Rattle.coord_model.specs.declared.study.Row.{Row}
use Rattle.coord_run.specs.RowLine.{row_text_at}
use Rattle.coord_run.proofs.RowLaws.{kept_more, kept_same, row_more}
use Rattle.coord_run.proofs.margins.push_rows.Goals.{then-branch, else-branch}
use Rattle.margin_rows.specs.Case.{rows_in}
use Rattle.coord_run.proofs.margins.push_rows.Goals as goal

pub loop-row-preserved : goal.loop-row-preserved
loop-row-preserved c =
    let case = c.args.inst.now in
    let settings = choice_data c.args.choice.now in
    let row = c.loop-row.row in
    let below : row < length (rows_in case) = omega (arith, c.loop-row-test.true, ap (λ (rs : List Row). length rs) c.rows.ensures.value) in
    record {
      lines = c.in_ok-push_row.ensures.line
          ∙ ap (λ (out : List ℕ). out ++ row_text_at case settings row) c.loop-row.invariant.lines
          ∙ row_more case settings row c.args.out.now.items below;
      kept = elim c.if-branch.branch [
        | then-branch w ↦ w.kept-is ∙ kept_more case settings row c.loop-row.kept c.in_ok-push_row.field-0 below c.in_ok-push_row.ensures.kept w.if-branch.true c.loop-row.invariant.kept
        | else-branch w ↦ w.kept-is ∙ kept_same case settings row c.loop-row.kept c.in_ok-push_row.field-0 below c.in_ok-push_row.ensures.kept w.if-branch.false c.loop-row.invariant.kept
      ];
    }
