use Rattle.std.proofs.Common.{◌≡◌, ◌-◌}
use Rattle.std.specs.List.{range_with_len, flat_map}
use Rattle.drill_ring.specs.Drill.{relays_of}
use Rattle.drill_ring.proofs.study.relays.Given as goal

abbrev pub invariant-loop-k : goal.invariant-loop-k
invariant-loop-k l = l.relays.items ≡ flat_map (relays_of l.n) (range_with_len 1 (l.k - 1))
