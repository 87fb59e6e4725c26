use Rattle.std.proofs.Common.{◌≡◌, ◌++◌, map, take}
use Rattle.std.specs.List.{filter}
use Rattle.coord_model.specs.Rows.{limit_row}
use Rattle.margin_rows.specs.Waiting.{has_limit}
use Rattle.margin_rows.proofs.rows.push_limit_rows.Given as goal

abbrev pub invariant-loop-term : goal.invariant-loop-term
invariant-loop-term l =
    l.rows.items ≡ l.initial.rows.items ++ map (limit_row l.kind) (filter (has_limit l.given l.kind) (take l.term-index l.terms))
