-- What `margins` does (ours): it reads the two files and a settings sheet, and prints each row with its margins.
use Rattle.std.specs.Prelude.{◌≡◌, ◌⊎◌, ℕ, Option, Some, None, List, [], ◌++◌, codes, length, count_by}
use Rattle.std.specs.Fmt.{decimal}
use Rattle.std.specs.List.{flat_map}
use Rattle.coord_model.specs.Choice.{Settings}
use Rattle.coord_model.specs.declared.study.Row.{Row}
use Rattle.coord_io.specs.Outside.{FolderState, SinkState, Told}
use Rattle.coord_run.specs.Causes.{CaseCause}
use Rattle.coord_run.specs.End.{Ends, OutputData}
use Rattle.coord_run.specs.Inputs.{ReadsCase}
use Rattle.coord_run.specs.RowLine.{is_kept, row_text}
use Rattle.coord_run.specs.declared.refusal.Refusal.{Refusal}
use Rattle.coord_run.specs.Settings.{FitFirstBox, GivesSettings, SettingsCause}
use Rattle.coord_words.specs.SolveWords.{FileNames}
use Rattle.margin_rows.specs.Case.{Case, rows_in}

-- how many rows the settings meet strictly
abbrev pub kept_rows : Case → Settings → ℕ
kept_rows case settings = count_by (is_kept case settings) (rows_in case)

-- the lines of the rows, in order
abbrev pub row_texts : Case → Settings → List Row → List ℕ
row_texts case settings = flat_map (row_text case settings)

-- the number of rows, and of those that are strictly met
unfoldable pub rows_text : ℕ → ℕ → List ℕ
rows_text rows kept = codes "rows " ++ decimal rows ++ codes " kept " ++ decimal kept ++ codes "\n"

-- the report on the settings of a sheet, which may have none
abbrev pub margins_text : Case → Option Settings → List ℕ
margins_text case None = codes "no settings\n"
margins_text case (Some settings) = row_texts case settings (rows_in case) ++ rows_text (length (rows_in case)) (kept_rows case settings)

-- why `margins` refuses: the two files make no case, or the sheet gives no settings of it
abbrev pub MarginsCause : FileNames → FolderState → FolderState → Refusal → Type 0
MarginsCause names before after refusal =
    CaseCause before after names.network names.currents refusal
    ⊎ ReadsCase before after names.network names.currents (λ case. SettingsCause before after names.sheet case refusal)

-- the settings of the sheet of this name, which fit the case, if it has some, give the text
pub record IsMarginsOf (before after : FolderState) (name : List ℕ) (case : Case) (text : List ℕ) : Type 0 where
  pub settings : Option Settings
  pub sheet : Told before after (λ m. GivesSettings m name case settings)
  pub fit : FitFirstBox case settings
  pub is : text ≡ margins_text case settings

-- the output is the report on the three files
abbrev pub IsMarginsOutput : FileNames → FolderState → FolderState → OutputData → Type 0
IsMarginsOutput names before after output =
    ReadsCase before after names.network names.currents (λ case. IsMarginsOf before after names.sheet case output.report)
    × (output.files ≡ []) × (output.status ≡ 0)

-- `margins` ends so
abbrev pub ReportsMargins : FileNames → FolderState → FolderState → SinkState → SinkState → ℕ → Type 0
ReportsMargins names before after sink_before sink_after status =
    Ends names (MarginsCause names before after) (IsMarginsOutput names before after) before after sink_before sink_after status
