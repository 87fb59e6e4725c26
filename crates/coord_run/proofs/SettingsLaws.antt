-- What the settings of a sheet say of the case, and of the folder before and after all readings.
use Rattle.std.proofs.Common.{◌≡◌, inl, inr, ℕ, Option, Some, List}
use Rattle.coord_io.proofs.Goings.{goes_as}
use Rattle.coord_model.specs.Choice.{Settings}
use Rattle.coord_io.specs.Outside.{FolderState, IsReadAlone, Told}
use Rattle.coord_run.specs.Settings.{GivesSettings, HasSheetFault, IsSheetFile, SettingsCause}
use Rattle.coord_run.proofs.ReadingLaws.{file_last, told_last}
use Rattle.coord_run.specs.declared.refusal.File.TheVariants as file
use Rattle.coord_run.specs.declared.refusal.Refusal.{Refusal}
use Rattle.margin_rows.specs.Case.{Case}
use Rattle.settings_sheet.specs.SheetData.{SheetData}

-- what a sheet that was read gives
pub gives : (before after : FolderState) (name : List ℕ) (case : Case) (sheet : SheetData) (settings : Option Settings)
    → Told before after (λ m. IsSheetFile m name case.study sheet) → sheet.settings ≡ settings → Told before after (λ m. GivesSettings m name case settings)
gives before after name case sheet settings read is = goes_as (λ m n told holds. (sheet, holds, is)) read

-- why a sheet is refused, after an earlier reading
pub settings_last : (before between after : FolderState) (name : List ℕ) (case : Case) (refusal : Refusal) → IsReadAlone before between
    → SettingsCause between after name case refusal → SettingsCause before after name case refusal
settings_last before between after name case refusal first (inl unread) = inl (file_last before between after name file.Sheet refusal first unread)
settings_last before between after name case refusal first (inr (inl faulty)) =
    inr (inl (faulty.0, faulty.1, faulty.2, told_last before between after (λ m. HasSheetFault m name case.study faulty.0 faulty.1) first.stay faulty.3))
settings_last before between after name case refusal first (inr (inr outside)) =
    inr (inr (outside.0, outside.1, outside.2, told_last before between after (λ m. GivesSettings m name case (Some outside.0)) first.stay outside.3, outside.4))
