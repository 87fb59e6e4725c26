-- The text of a settings sheet (ours): its lines, each with its line feed.
use Rattle.std.specs.Prelude.{ℕ, Some, List}
use Rattle.coord_model.specs.Choice.{Settings}
use Rattle.coord_model.specs.StudyData.{StudyData}
use Rattle.coord_text.specs.Claims.{text_of}
use Rattle.settings_sheet.specs.SheetLines.{settings_lines, sheet_lines}
pub use Rattle.coord_text.specs.Claims.{amount}
pub use Rattle.settings_sheet.specs.SheetData.{IsSheet, SheetData, sheet_data}

-- the text of the relays' lines
unfoldable pub relay_lines : StudyData → Settings → List ℕ
relay_lines study settings = text_of (settings_lines study (Some settings))

-- the text of a sheet
abbrev pub sheet_text : StudyData → SheetData → List ℕ
sheet_text study sheet = text_of (sheet_lines study sheet)
