use Rattle.std.proofs.Common.{ℕ, ◌+◌, ◌<◌, get_or, map}
use Rattle.cert_text.proofs.nodes.are_rising.Given as goal

abbrev pub invariant-loop-i : goal.invariant-loop-i
invariant-loop-i l = (k : ℕ) → k + 1 < l.i → get_or (map (λ w. w.row) l.weights) k 0 < get_or (map (λ w. w.row) l.weights) (k + 1) 0
