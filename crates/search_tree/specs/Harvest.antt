-- The tree of a certificate that a search tree gives at its end (ours).
use Rattle.coord_model.specs.Tree.{Tree, split as split_tree, empty, open_leaf}
use Rattle.coord_model.specs.Tree.{void as void_tree, bound as bound_tree, hair as hair_tree}
use Rattle.coord_model.specs.declared.weights.Weights.{Weights}
use Rattle.search_tree.specs.Plan.{Plan, split, closed, opened}
use Rattle.search_tree.specs.declared.leaf.Leaf.{Leaf}
use Rattle.search_tree.specs.declared.leaf.Leaf.TheVariants.{Empty, Void, Bound, Hair}

-- the tree of a closed leaf
abbrev pub leaf_tree : Leaf → Tree
leaf_tree Empty = empty
leaf_tree (Void weights) = void_tree weights.items
leaf_tree (Bound weights) = bound_tree weights.lambda weights.rows.items
leaf_tree (Hair row) = hair_tree row

-- the tree of an open leaf with these weights
abbrev pub weighed : Weights → Tree
weighed weights = open_leaf weights.lambda weights.rows.items

-- the tree without its numbers, each open leaf turned by the function
abbrev pub tree_of : {T : Type 0} → (T → Tree) → Plan T → Tree
tree_of turned (split number relay at low high) =
    split_tree relay at (tree_of turned low) (tree_of turned high)
tree_of turned (closed number leaf) = leaf_tree leaf
tree_of turned (opened number bound value) = turned value
