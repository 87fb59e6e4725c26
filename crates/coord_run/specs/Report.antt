-- The report that `solve` prints (ours): a line for the ending, and at a hairline the row and the relays' settings.
use Rattle.std.specs.Prelude.{ℕ, Option, Some, None, List, [], ◌++◌, codes}
use Rattle.std.specs.Fmt.{decimal}
use Rattle.std.specs.Option.{option_map}
use Rattle.branch_bound.specs.declared.outcome.HairPlace.{HairPlace}
use Rattle.branch_bound.specs.declared.outcome.Outcome.{Outcome}
use Rattle.coord_model.specs.Choice.{choice_data}
use Rattle.coord_model.specs.declared.choice.Ending.{Ending}
use Rattle.coord_model.specs.declared.choice.Ending.TheVariants.{BudgetSpent, Closed, Hairline, NoSettings}
use Rattle.coord_run.specs.RowLine.{row_text_at}
use Rattle.margin_rows.specs.Case.{Case}
use Rattle.settings_sheet.specs.SheetText.{SheetData, amount, relay_lines}

-- an ending with its cost, its bound and the boxes that were worked on
unfoldable pub ending_line : List ℕ → Option ℕ → Option ℕ → ℕ → List ℕ
ending_line word cost bound boxes =
    word ++ codes " cost " ++ amount cost ++ codes " bound " ++ amount bound ++ codes " boxes " ++ decimal boxes ++ codes "\n"

-- the line of a search that found that no choice is allowed
unfoldable pub none_line : ℕ → List ℕ
none_line boxes = codes "no settings boxes " ++ decimal boxes ++ codes "\n"

-- the line of an ending
abbrev pub ending_text : Ending → Option ℕ → Option ℕ → ℕ → List ℕ
ending_text Closed cost bound boxes = ending_line (codes "closed") cost bound boxes
ending_text NoSettings cost bound boxes = none_line boxes
ending_text BudgetSpent cost bound boxes = ending_line (codes "budget spent") cost bound boxes
ending_text Hairline cost bound boxes = ending_line (codes "hairline") cost bound boxes

-- the row that a hairline shows, and its settings
abbrev pub hair_text : Case → Option HairPlace → List ℕ
hair_text case None = []
hair_text case (Some hair) = row_text_at case (choice_data hair.choice) hair.row ++ relay_lines case.study (choice_data hair.choice)

-- the report of an outcome
abbrev pub report_text : Case → Outcome → List ℕ
report_text case outcome = ending_text outcome.ending outcome.cost outcome.bound outcome.boxes ++ hair_text case outcome.hair

-- the sheet of an outcome
abbrev pub sheet_of : Outcome → SheetData
sheet_of outcome = record {
  ending = outcome.ending;
  cost = outcome.cost;
  bound = outcome.bound;
  settings = option_map choice_data outcome.issued;
}
