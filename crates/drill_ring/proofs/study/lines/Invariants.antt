use Rattle.std.proofs.Common.{◌≡◌, ◌-◌, map}
use Rattle.std.specs.List.{range_with_len}
use Rattle.drill_ring.specs.Drill.{line_of}
use Rattle.drill_ring.proofs.study.lines.Given as goal

abbrev pub invariant-loop-k : goal.invariant-loop-k
invariant-loop-k l = l.lines.items ≡ map (line_of l.n) (range_with_len 1 (l.k - 1))
