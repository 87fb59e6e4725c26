-- What a settings sheet says, and which sheets a study has (ours).
use Rattle.std.specs.Prelude.{◌≡◌, ℕ, Option, is_some, IfSome}
use Rattle.std.specs.Option.{option_map}
use Rattle.coord_model.specs.Allowed.{AreOnSteps}
use Rattle.coord_model.specs.Choice.{Settings, choice_data}
use Rattle.coord_model.specs.StudyData.{StudyData}
use Rattle.coord_model.specs.declared.choice.Ending.{Ending}
use Rattle.coord_text.specs.Claims.{BoundGoesWith, CostGoesWith, IsShort}
use Rattle.settings_sheet.specs.declared.sheet.Sheet.{Sheet}

-- what a sheet says
pub record SheetData : Type 0 where
  pub ending : Ending
  pub cost : Option ℕ
  pub bound : Option ℕ
  pub settings : Option Settings

-- the data of a sheet
abbrev pub sheet_data : Sheet → SheetData
sheet_data sheet = record {
  ending = sheet.ending;
  cost = sheet.cost;
  bound = sheet.bound;
  settings = option_map choice_data sheet.choice;
}

-- a sheet of the study: short numbers that go with its ending, and settings on the steps exactly where it has a cost
pub record IsSheet (study : StudyData) (sheet : SheetData) : Type 0 where
  pub cost_goes : CostGoesWith sheet.ending sheet.cost
  pub bound_goes : BoundGoesWith sheet.ending sheet.bound
  pub cost_short : IsShort sheet.cost
  pub bound_short : IsShort sheet.bound
  pub issued : is_some sheet.settings ≡ is_some sheet.cost
  pub on_steps : IfSome sheet.settings (AreOnSteps study)
