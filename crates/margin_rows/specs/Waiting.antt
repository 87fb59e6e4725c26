-- The interval rows of a fault by its pairs, and the limit rows by their terms.
use Rattle.std.specs.Prelude.{ℕ, Bool, false, ◌&&◌, nat_lt}
use Rattle.coord_model.specs.Rows.{amps_at, is_primary, least_ms_of, most_ms_of}
use Rattle.coord_model.specs.declared.study.Pair.{Pair}
use Rattle.coord_model.specs.declared.study.Row.{Row}
use Rattle.coord_model.specs.declared.study.RowKind.{RowKind}
use Rattle.coord_model.specs.declared.study.RowKind.TheVariants.{Interval, Least, Most}
use Rattle.coord_model.specs.declared.study.Term.{Term}
use Rattle.margin_rows.specs.Case.{Case}

-- at the fault the primary of the pair clears it first and the backup has a current
abbrev pub waits_at : Case → ℕ → Pair → Bool
waits_at case f pair = is_primary case.study case.currents f pair.primary && nat_lt 0 (amps_at case.currents f pair.backup)

-- the row of a pair at a fault
abbrev pub row_from : ℕ → Pair → Row
row_from f pair = record { kind = Interval; fault = f; backup = pair.backup; primary = pair.primary }

-- the relay of the term has a limit of this kind
abbrev pub has_limit : Case → RowKind → Term → Bool
has_limit case Interval term = false
has_limit case Least term = nat_lt 0 (least_ms_of case.study term.relay)
has_limit case Most term = nat_lt 0 (most_ms_of case.study term.relay)
