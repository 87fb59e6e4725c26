-- The settings that a sheet gives a case, and why it gives none (ours).
use Rattle.std.specs.Prelude.{◌≡◌, ◌⊎◌, ℕ, Option, Some, List, slice_get, IfSome}
use Rattle.std.specs.Option.{option_map}
use Rattle.coord_model.specs.Choice.{Settings}
use Rattle.coord_model.specs.StudyData.{StudyData}
use Rattle.coord_io.specs.Files.{Files}
use Rattle.coord_run.specs.Inputs.{Holds}
use Rattle.coord_io.specs.Outside.{FolderState, Told}
use Rattle.coord_run.specs.Causes.{FileCause}
use Rattle.coord_run.specs.declared.refusal.File.TheVariants as file
use Rattle.coord_run.specs.declared.refusal.Refusal.{Refusal}
use Rattle.coord_run.specs.declared.refusal.Refusal.TheVariants.{SheetLine, SheetPickup}
use Rattle.margin_rows.specs.Case.{Case}
use Rattle.margin_rows.specs.FirstBox.{IsInFirstBox}
use Rattle.margin_rows.specs.Unmet.{IsFirstOutside}
use Rattle.settings_sheet.specs.SheetData.{IsSheet, SheetData}
use Rattle.settings_sheet.specs.SheetFaults.{StopsAt}
use Rattle.settings_sheet.specs.SheetText.{sheet_text}
use Rattle.settings_sheet.specs.declared.refusal.SheetKind.{SheetKind}

-- the file holds the text of this sheet of the study
abbrev pub IsSheetFile : Files → List ℕ → StudyData → SheetData → Type 0
IsSheetFile m name study sheet = Holds m name (λ bytes. IsSheet study sheet × (bytes ≡ sheet_text study sheet))

-- the file isn't a sheet of the study: it stops being one at this line, at which a line of this kind is due
abbrev pub HasSheetFault : Files → List ℕ → StudyData → ℕ → SheetKind → Type 0
HasSheetFault m name study line kind = Holds m name (λ bytes. StopsAt study bytes line kind)

-- the file is a sheet of the case with these settings, or with none
abbrev pub GivesSettings : Files → List ℕ → Case → Option Settings → Type 0
GivesSettings m name case settings = (sheet : SheetData) × IsSheetFile m name case.study sheet × (sheet.settings ≡ settings)

-- the relay of the study with this number has this name
abbrev pub NamesRelay : StudyData → ℕ → List ℕ → Type 0
NamesRelay study number name = option_map (λ r. r.name) (slice_get study.relays number) ≡ Some name

-- the first relay of the case whose pickup in the settings is not in the first box has this name
pub record NamesOutside (case : Case) (settings : Settings) (name : List ℕ) : Type 0 where
  pub relay : ℕ
  pub first : IsFirstOutside case settings relay
  pub named : NamesRelay case.study relay name

-- the settings, if there are some, lie in the first box
abbrev pub FitFirstBox : Case → Option Settings → Type 0
FitFirstBox case settings = IfSome settings (IsInFirstBox case)

-- why the file of this name is refused as a sheet of the case whose settings, if it has some, lie in the first box
abbrev pub SettingsCause : FolderState → FolderState → List ℕ → Case → Refusal → Type 0
SettingsCause before after name case refusal =
    FileCause before after name file.Sheet refusal
    ⊎ (((line : ℕ) × (kind : SheetKind) × (refusal ≡ SheetLine line kind) × Told before after (λ m. HasSheetFault m name case.study line kind))
    ⊎ ((settings : Settings) × (relay : List ℕ) × (refusal ≡ SheetPickup relay)
    × Told before after (λ m. GivesSettings m name case (Some settings)) × NamesOutside case settings relay))
