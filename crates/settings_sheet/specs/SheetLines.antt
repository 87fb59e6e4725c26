-- The lines of a settings sheet (ours), and what stands at each.
use Rattle.std.specs.Prelude.{ℕ, ◌+◌, ◌==◌, nat_le, Option, Some, None, List, [], ◌∷◌, ◌++◌, codes, length, map, slice_get, slice_index, if◌then◌else◌}
use Rattle.std.specs.Option.{option_map_or}
use Rattle.coord_model.specs.Choice.{Settings}
use Rattle.coord_model.specs.Pairs.{relay_numbers}
use Rattle.coord_model.specs.StudyData.{StudyData}
use Rattle.coord_model.specs.Time.{plug_at, dial_at}
use Rattle.coord_model.specs.declared.choice.Ending.{Ending}
use Rattle.coord_model.specs.declared.study.Relay.{Relay}
use Rattle.coord_text.specs.Claims.{amount, ending_word}
use Rattle.coord_text.specs.Numbers.{fixed}
use Rattle.settings_sheet.specs.SheetData.{SheetData}
use Rattle.settings_sheet.specs.declared.refusal.SheetKind.{SheetKind}
use Rattle.settings_sheet.specs.declared.refusal.SheetKind.TheVariants as due

-- the lines before the settings
abbrev pub head_lines : Ending → Option ℕ → Option ℕ → List (List ℕ)
head_lines ending cost bound =
    codes "coord-sheet 1" ∷ (codes "ending " ++ ending_word ending)
    ∷ (codes "cost " ++ amount cost) ∷ (codes "bound " ++ amount bound) ∷ []

-- the line of a relay: its plug in secondary amperes and its dial
abbrev pub relay_words : Relay → ℕ → ℕ → List ℕ
relay_words relay pickup dial =
    codes "relay " ++ (relay.name ++ (codes " plug " ++ (fixed 2 (plug_at relay pickup) ++ (codes " dial " ++ fixed 3 (dial_at relay dial)))))

-- the line of the relay with a number
abbrev pub relay_words_at : StudyData → Settings → ℕ → List ℕ
relay_words_at study settings i =
    option_map_or (λ relay. relay_words relay (slice_index settings.pickup i) (slice_index settings.dial i)) (slice_get study.relays i) []

-- the lines of the relays, if there are settings
abbrev pub settings_lines : StudyData → Option Settings → List (List ℕ)
settings_lines study None = []
settings_lines study (Some settings) = map (relay_words_at study settings) (relay_numbers study)

-- the lines of a sheet: its head, a line for each relay if settings are issued, and `end`
abbrev pub sheet_lines : StudyData → SheetData → List (List ℕ)
sheet_lines study sheet =
    head_lines sheet.ending sheet.cost sheet.bound ++ (settings_lines study sheet.settings ++ codes "end" ∷ [])

-- what stands at a line of a sheet, counted from 1
abbrev pub kind_at : StudyData → SheetData → ℕ → SheetKind
kind_at study sheet line =
    if line == 1 then due.Format
    else (if line == 2 then due.Ending
    else (if line == 3 then due.Cost
    else (if line == 4 then due.Bound
    else (if nat_le line (4 + length (settings_lines study sheet.settings)) then due.Relay
    else (if line == 5 + length (settings_lines study sheet.settings) then due.End
    else due.After)))))
