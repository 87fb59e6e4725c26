-- One row more of a report on all rows.
use Rattle.std.specs.Prelude.{count_by, Bool, true, false}
use Rattle.std.proofs.Common.{◌≡◌, ℕ, ◌+◌, ◌<◌, List, ◌++◌, length, take, get_or, ap, sym, ◌∙◌}
use Rattle.std.proofs.lemmas.List.{flat_map_more, take_more}
use Rattle.std.proofs.lemmas.List.Sums.{count_by_more_no, count_by_more_yes}
use Rattle.coord_model.specs.Choice.{Settings}
use Rattle.coord_model.specs.declared.study.Row.{Row}
use Rattle.coord_model.specs.declared.study.RowKind.TheVariants.{Interval}
use Rattle.coord_run.specs.Margins.{row_texts}
use Rattle.coord_run.specs.RowLine.{is_kept, row_text, row_text_at}
use Rattle.margin_rows.specs.Case.{Case, row_at, rows_in}

-- a row that is read only at places that are there
abbrev no_row : Row
no_row = record { kind = Interval; fault = 0; backup = 0; primary = 0 }

-- the line of the next row
pub row_more : (case : Case) (settings : Settings) (row : ℕ) (front : List ℕ) → row < length (rows_in case)
    → (front ++ row_texts case settings (take row (rows_in case))) ++ row_text_at case settings row ≡ front ++ row_texts case settings (take (row + 1) (rows_in case))
row_more case settings row front below =
    let rows = rows_in case in
    rw (take_more rows row no_row below)
    (flat_map_more (row_text case settings) front (take row rows) (get_or rows row no_row))

-- the next row counts where it is strictly met
pub kept_more : (case : Case) (settings : Settings) (row kept : ℕ) (met : Bool) → row < length (rows_in case) → met ≡ is_kept case settings (row_at case row) → met ≡ true
    → kept ≡ count_by (is_kept case settings) (take row (rows_in case)) → kept + 1 ≡ count_by (is_kept case settings) (take (row + 1) (rows_in case))
kept_more case settings row kept met below is passed count =
    let rows = rows_in case in
    ap (λ n. n + 1) count ∙ sym (count_by_more_yes (is_kept case settings) rows row no_row below (sym is ∙ passed))

pub kept_same : (case : Case) (settings : Settings) (row kept : ℕ) (met : Bool) → row < length (rows_in case) → met ≡ is_kept case settings (row_at case row) → met ≡ false
    → kept ≡ count_by (is_kept case settings) (take row (rows_in case)) → kept ≡ count_by (is_kept case settings) (take (row + 1) (rows_in case))
kept_same case settings row kept met below is failed count =
    let rows = rows_in case in
    count ∙ sym (count_by_more_no (is_kept case settings) rows row no_row below (sym is ∙ failed))
