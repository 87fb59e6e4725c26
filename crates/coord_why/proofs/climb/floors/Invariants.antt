use Rattle.coord_why.specs.Raises.{AreFloors}
use Rattle.coord_why.proofs.climb.floors.Given as goal

abbrev pub invariant-loop-relay : goal.invariant-loop-relay
invariant-loop-relay l = AreFloors l.relay l.raises.items
