use Rattle.std.proofs.Common.{◌≡◌, ◌-◌}
use Rattle.std.specs.List.{range_with_len, flat_map}
use Rattle.drill_ring.specs.Drill.{faults_of}
use Rattle.drill_ring.proofs.study.faults.Given as goal

abbrev pub invariant-loop-k : goal.invariant-loop-k
invariant-loop-k l = l.faults.items ≡ flat_map faults_of (range_with_len 1 (l.k - 1))
