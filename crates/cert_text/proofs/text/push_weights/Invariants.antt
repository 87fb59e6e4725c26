use Rattle.std.proofs.Common.{◌≡◌, ◌≤◌, ◌++◌, take, vec_capacity}
use Rattle.cert_text.specs.Nodes.{weight_words}
use Rattle.cert_text.proofs.text.push_weights.Given as goal

abbrev pub invariant-loop-weight : goal.invariant-loop-weight
invariant-loop-weight l =
    (l.out.items ≡ l.initial.out.items ++ weight_words (take l.weight-index l.weights)) × (vec_capacity l.initial.out ≤ vec_capacity l.out)
