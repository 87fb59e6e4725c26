use Rattle.std.proofs.Common.{◌≡◌}
use Rattle.std.specs.List.{range_with_len, flat_map}
use Rattle.coord_model.specs.Rows.{rows_at}
use Rattle.margin_rows.proofs.rows.interval_rows.Given as goal

abbrev pub invariant-loop-fault : goal.invariant-loop-fault
invariant-loop-fault l = l.rows.items ≡ flat_map (rows_at l.given.study l.given.currents) (range_with_len 0 l.fault)
