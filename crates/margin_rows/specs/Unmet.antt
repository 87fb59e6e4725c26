-- The first row that settings do not strictly meet, and the first relay whose pickup is not in the first box (ours).
use Rattle.std.specs.Prelude.{ℕ, ◌<◌, length, slice_index}
use Rattle.coord_model.specs.Choice.{Settings}
use Rattle.margin_rows.specs.Case.{Case, rows_in, row_at}
use Rattle.margin_rows.specs.FirstBox.{IsFirstStep}
use Rattle.margin_rows.specs.Margin.{MeetsStrictly}

-- the row is the first that the settings do not strictly meet
pub record IsFirstUnmet (case : Case) (settings : Settings) (row : ℕ) : Type 0 where
  pub is_row : row < length (rows_in case)
  pub unmet : ¬ (MeetsStrictly case settings (row_at case row))
  pub before : (earlier : ℕ) → earlier < row → MeetsStrictly case settings (row_at case earlier)

-- the relay is the first in study order whose pickup in the settings is not in the first box
pub record IsFirstOutside (case : Case) (settings : Settings) (relay : ℕ) : Type 0 where
  pub in_study : relay < length case.study.relays
  pub outside : ¬ (IsFirstStep case relay (slice_index settings.pickup relay))
  pub before : (earlier : ℕ) → earlier < relay → IsFirstStep case earlier (slice_index settings.pickup earlier)
