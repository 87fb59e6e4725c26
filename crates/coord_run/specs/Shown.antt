-- What an outcome must be to be printed and written (ours).
use Rattle.std.specs.Prelude.{◌<◌, length, IfSome}
use Rattle.branch_bound.specs.declared.outcome.Outcome.{Outcome}
use Rattle.coord_model.specs.Choice.{choice_data}
use Rattle.coord_run.specs.Report.{sheet_of}
use Rattle.margin_rows.specs.Case.{Case, rows_in}
use Rattle.margin_rows.specs.FirstBox.{IsInFirstBox}
use Rattle.settings_sheet.specs.SheetText.{IsSheet}

-- it has a sheet, and the settings and the row of a hairline are there
pub record IsShown (case : Case) (outcome : Outcome) : Type 0 where
  pub sheet : IsSheet case.study (sheet_of outcome)
  pub first_box : IfSome outcome.hair (λ hair. IsInFirstBox case (choice_data hair.choice))
  pub is_row : IfSome outcome.hair (λ hair. hair.row < length (rows_in case))
