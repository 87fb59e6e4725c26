use Rattle.std.proofs.Common.{length}
use Rattle.coord_model.specs.Tree.{nodes_of, shape}
use Rattle.cert_tree.proofs.holds.+take_tree.Given as goal

-- the nodes that are left
abbrev pub decreases-take_tree : goal.decreases-take_tree
decreases-take_tree l = length (nodes_of (shape l.node.now))
