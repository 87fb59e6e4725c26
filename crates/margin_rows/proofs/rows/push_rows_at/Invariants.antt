use Rattle.std.proofs.Common.{◌≡◌, ◌++◌, map, take}
use Rattle.std.specs.List.{filter}
use Rattle.margin_rows.specs.Waiting.{waits_at, row_from}
use Rattle.margin_rows.proofs.rows.push_rows_at.Given as goal

abbrev pub invariant-loop-pair : goal.invariant-loop-pair
invariant-loop-pair l =
    l.rows.items ≡ l.initial.rows.items ++ map (row_from l.fault) (filter (waits_at l.given l.fault) (take l.pair-index l.pairs))
