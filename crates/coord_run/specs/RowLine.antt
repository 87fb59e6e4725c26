-- The line of a row of the coordination (ours): its names, and its margins at settings.
use Rattle.std.specs.Prelude.{ℕ, ℤ, pos, Bool, int_le, List, [], ◌++◌, codes, slice_get}
use Rattle.std.specs.Fmt.{signed_decimal}
use Rattle.std.specs.Option.{option_map_or}
use Rattle.coord_model.specs.Choice.{Settings}
use Rattle.coord_model.specs.StudyData.{StudyData}
use Rattle.coord_model.specs.declared.study.Row.{Row}
use Rattle.coord_model.specs.declared.study.RowKind.{RowKind}
use Rattle.coord_model.specs.declared.study.RowKind.TheVariants.{Interval, Least, Most}
use Rattle.margin_rows.specs.Case.{Case, row_at}
use Rattle.margin_rows.specs.Margin.{loose_margin, strict_margin}

-- the name of a fault, and of a relay
abbrev pub fault_name : StudyData → ℕ → List ℕ
fault_name study f = option_map_or (λ fault. fault.name) (slice_get study.faults f) []

abbrev pub relay_name : StudyData → ℕ → List ℕ
relay_name study r = option_map_or (λ relay. relay.name) (slice_get study.relays r) []

-- the names of a row: those of the fault, the backup and the primary of an interval, those of the fault and the relay of a
-- least or a greatest time
unfoldable pub row_names : RowKind → List ℕ → List ℕ → List ℕ → List ℕ
row_names Interval fault backup primary = codes "row " ++ fault ++ codes " " ++ backup ++ codes " " ++ primary
row_names Least fault backup primary = codes "least " ++ fault ++ codes " " ++ primary
row_names Most fault backup primary = codes "most " ++ fault ++ codes " " ++ primary

-- the loose and the strict margin of a row, in picoseconds
unfoldable pub row_margins : ℤ → ℤ → List ℕ
row_margins loose strict = codes " loose " ++ signed_decimal loose ++ codes " strict " ++ signed_decimal strict ++ codes "\n"

-- the line of a row of the case, at settings
abbrev pub row_text : Case → Settings → Row → List ℕ
row_text case settings row =
    row_names row.kind (fault_name case.study row.fault) (relay_name case.study row.backup) (relay_name case.study row.primary)
    ++ row_margins (loose_margin case settings row) (strict_margin case settings row)

-- the line of the row with this number
abbrev pub row_text_at : Case → Settings → ℕ → List ℕ
row_text_at case settings row = row_text case settings (row_at case row)

-- whether the settings meet the row strictly: its strict margin is at least 0
abbrev pub is_kept : Case → Settings → Row → Bool
is_kept case settings row = int_le (pos 0) (strict_margin case settings row)
