use Rattle.std.proofs.Common.{◌≡◌}
use Rattle.std.specs.List.{range_with_len, flat_map}
use Rattle.coord_model.specs.Rows.{terms_at}
use Rattle.margin_rows.proofs.terms.terms.Given as goal

abbrev pub invariant-loop-fault : goal.invariant-loop-fault
invariant-loop-fault l = l.terms.items ≡ flat_map (terms_at l.given.study l.given.currents) (range_with_len 0 l.fault)
