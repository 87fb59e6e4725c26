-- What `margins` says of the folder before and after all three readings.
use Rattle.std.proofs.Common.{◌≡◌, inr, ℕ, ◌≤◌, Option, List, length}
use Rattle.coord_io.specs.Outside.{FolderState, IsReadAlone, Told}
use Rattle.coord_model.specs.Choice.{Settings}
use Rattle.coord_run.specs.Inputs.{AreInputs, ReadsCase}
use Rattle.coord_run.specs.Margins.{IsMarginsOf, MarginsCause, margins_text}
use Rattle.coord_run.specs.Settings.{FitFirstBox, GivesSettings, SettingsCause}
use Rattle.coord_run.specs.Stops.{StopsFor}
use Rattle.coord_words.specs.SolveWords.{FileNames}
use Rattle.coord_run.specs.declared.refusal.Stop.{Stop}
use Rattle.coord_run.proofs.ReadingLaws.{of_case, stops_as, told_last}
use Rattle.coord_run.proofs.SettingsLaws.{settings_last}
use Rattle.margin_rows.specs.Case.{Case, rows_in}

module _ (names : FileNames) (before between after : FolderState) (case : Case) (first : IsReadAlone before between) (later : IsReadAlone between after) (few_rows : length (rows_in case) ≤ 4096)
    (read : Told before between (λ m. AreInputs m names.network names.currents case.study case.currents)) where
  here : (P : Case → Type 0) → P case → ReadsCase before after names.network names.currents P
  here P = of_case before between after names.network names.currents case P later few_rows read

  -- a refusal about the sheet, after the reading of the two files
  pub third_read : (stop : Stop) → StopsFor stop (SettingsCause between after names.sheet case) → StopsFor stop (MarginsCause names before after)
  third_read stop = stops_as stop _ _ (λ refusal cause.
      inr (here (λ case. SettingsCause before after names.sheet case refusal) (settings_last before between after names.sheet case refusal first cause)))

  -- the report on the settings of the sheet
  pub reported_on : (settings : Option Settings) (text : List ℕ) → Told between after (λ m. GivesSettings m names.sheet case settings) → FitFirstBox case settings → text ≡ margins_text case settings
      → ReadsCase before after names.network names.currents (λ case. IsMarginsOf before after names.sheet case text)
  reported_on settings text sheet fit is = here (λ case. IsMarginsOf before after names.sheet case text) (record {
    settings = settings;
    sheet = told_last before between after (λ m. GivesSettings m names.sheet case settings) first.stay sheet;
    fit = fit;
    is = is;
  })
