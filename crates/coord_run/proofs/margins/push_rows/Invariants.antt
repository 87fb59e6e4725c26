use Rattle.std.specs.Prelude.{count_by}
use Rattle.std.proofs.Common.{◌≡◌, ◌++◌, take}
use Rattle.coord_model.specs.Choice.{choice_data}
use Rattle.coord_run.specs.Margins.{row_texts}
use Rattle.coord_run.specs.RowLine.{is_kept}
use Rattle.margin_rows.specs.Case.{rows_in}
use Rattle.coord_run.proofs.margins.push_rows.Given as goal

abbrev pub invariant-loop-row : goal.invariant-loop-row
invariant-loop-row l = record {
  lines : l.out.items ≡ l.initial.out.items ++ row_texts l.inst (choice_data l.choice) (take l.row (rows_in l.inst));
  kept : l.kept ≡ count_by (is_kept l.inst (choice_data l.choice)) (take l.row (rows_in l.inst));
}
