-- A tree has no more boxes than nodes.
use Rattle.std.proofs.Common.{ℕ, suc, ◌+◌, ◌≤◌, ◌++◌, length, arith}
use Rattle.std.proofs.lemmas.List.{length-append}
use Rattle.coord_model.specs.Tree.{Tree, split, empty, void, bound, hair, open_leaf, nodes_of}
use Rattle.cert_tree.specs.Endings.{boxes}

pub boxes_few : (tree : Tree) → boxes tree ≤ length (nodes_of tree)
boxes_few (split relay at below above) = omega (arith, boxes_few below, boxes_few above, length-append (nodes_of below) (nodes_of above))
boxes_few empty = omega arith
boxes_few (void weights) = omega arith
boxes_few (bound lambda weights) = omega arith
boxes_few (hair row) = omega arith
boxes_few (open_leaf lambda weights) = omega arith

pub halves_few : (below above : Tree) (n : ℕ) → suc (length (nodes_of below ++ nodes_of above)) ≤ n → suc (boxes below + boxes above) ≤ n
halves_few below above n few = omega (arith, few, boxes_few below, boxes_few above, length-append (nodes_of below) (nodes_of above))
