use Rattle.std.proofs.Common.{ℕ, ◌<◌, ◌≤◌, get_or}
use Rattle.coord_model.specs.declared.weights.Weight.{Weight}
use Rattle.cert_text.proofs.nodes.are_some.Given as goal

abbrev pub invariant-loop-i : goal.invariant-loop-i
invariant-loop-i l = (k : ℕ) (d : Weight) → k < l.i → 1 ≤ (get_or l.weights k d).weight
