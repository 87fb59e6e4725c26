use Rattle.coord_why.specs.Raises.{AreNumbers}
use Rattle.coord_why.proofs.climb.numbers.Given as goal

abbrev pub invariant-loop-number : goal.invariant-loop-number
invariant-loop-number l = AreNumbers l.number l.numbers.items
