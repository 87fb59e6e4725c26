-- How the rounds begin, and how they end.
use Rattle.std.specs.Prelude.{slice_index_or}
use Rattle.std.specs.List.{Contains}
use Rattle.std.proofs.Common.{◌≡◌, ℕ, inl, inr, true, false, replicate, arith}
use Rattle.std.proofs.lemmas.Bool.{cases_lt}
use Rattle.std.proofs.lemmas.List.{get_or-replicate, get_or_past, length-replicate}
use Rattle.coord_model.specs.declared.study.Row.{Row}
use Rattle.margin_rows.specs.Box.{Box}
use Rattle.margin_rows.specs.Case.{Case, rows_in, FitsCase}
use Rattle.box_range.specs.Rounds.{IsDueOrSettled}
use Rattle.box_range.proofs.Visited.{row_places}

-- at first each row is due
pub all_due : (case : Case) (box : Box) (row : Row) → FitsCase case → Contains (rows_in case) row → IsDueOrSettled case box (replicate 96 true) row
all_due case box row fits there =
    let places = row_places case (replicate 96 true) row fits there (length-replicate 96 true) in
    inl (inl (get_or-replicate 96 row.backup true false (omega (arith, places.backup, length-replicate 96 true))))

-- no relay is flagged at first in a round
pub none_flagged : (relay : ℕ) → slice_index_or (replicate 96 false) relay false ≡ false
none_flagged relay =
    elim (cases_lt relay 96) [
      | inl below ↦ get_or-replicate 96 relay false false below
      | inr past ↦ get_or_past (replicate 96 false) relay false (omega (arith, past, length-replicate 96 false))
    ]
