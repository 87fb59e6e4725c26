use Rattle.std.proofs.Common.{◌≡◌, ◌++◌, vec_len}
use Rattle.coord_model.specs.Tree.{nodes_of, shape}
use Rattle.cert_text.specs.Growth.{nodes_within}
use Rattle.cert_text.proofs.growth.close.Given as goal

abbrev pub invariant-loop-relay : goal.invariant-loop-relay
invariant-loop-relay l = nodes_within l.splits.items ++ nodes_of (shape l.node) ≡ nodes_within l.initial.splits.items ++ nodes_of (shape l.initial.node)

abbrev pub decreases-loop-relay : goal.decreases-loop-relay
decreases-loop-relay l = vec_len l.splits
