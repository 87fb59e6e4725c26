use Rattle.std.proofs.Common.{◌≡◌, take}
use Rattle.dual_round.specs.Scaled.{weighed}
use Rattle.dual_round.proofs.scaled.weigh.Given as goal

abbrev pub invariant-loop-row : goal.invariant-loop-row
invariant-loop-row l = l.weights.items ≡ weighed l.places (take l.row-index l.rows)
