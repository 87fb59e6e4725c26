use Rattle.std.proofs.Common.{◌≡◌, ◌-◌, map}
use Rattle.std.specs.List.{range_with_len}
use Rattle.drill_ring.specs.Drill.{bus_of}
use Rattle.drill_ring.proofs.study.buses.Given as goal

abbrev pub invariant-loop-k : goal.invariant-loop-k
invariant-loop-k l = l.buses.items ≡ map bus_of (range_with_len 1 (l.k - 1))
