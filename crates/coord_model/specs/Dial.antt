-- The dial of a relay: at each of its dial steps, and by settings.
use Rattle.std.specs.Prelude.{ℕ, slice_get, slice_index}
use Rattle.std.specs.Option.{option_map_or}
use Rattle.coord_model.specs.Choice.{Settings}
use Rattle.coord_model.specs.StudyData.{StudyData}
use Rattle.coord_model.specs.Time.{dial_at}

-- the dial of relay i at a dial step, in thousandths
abbrev pub dial_at_step : StudyData → ℕ → ℕ → ℕ
dial_at_step study i step = option_map_or (λ relay. dial_at relay step) (slice_get study.relays i) 0

-- the dial of relay i by the settings, in thousandths
abbrev pub dial_of : StudyData → Settings → ℕ → ℕ
dial_of study settings i = dial_at_step study i (slice_index settings.dial i)
