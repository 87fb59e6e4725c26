-- A tree that is read node by node (ours): the nodes that are read, in pre-order.
use Rattle.std.specs.Prelude.{Option, Some, None, List, [], ◌∷◌, ◌++◌}
use Rattle.coord_model.specs.Tree.{Single, nodes_of, shape}
use Rattle.coord_model.specs.declared.tree.Node.{Node}
use Rattle.coord_model.specs.declared.tree.NodeLine.TheVariants as Line
use Rattle.cert_text.specs.declared.tree.GrowingTree.{GrowingTree}
use Rattle.cert_text.specs.declared.tree.OpenSplit.{OpenSplit}

-- the nodes of a tree that may be there
abbrev pub nodes_if : Option Node → List Single
nodes_if None = []
nodes_if (Some node) = nodes_of (shape node)

-- a split, and the nodes of its low half once that is whole
abbrev pub nodes_of_split : OpenSplit → List Single
nodes_of_split split =
    record { line = Line.Split split.relay split.at; weights = [] } ∷ nodes_if split.low

-- those of open splits, each inside the one before it
abbrev pub nodes_within : List OpenSplit → List Single
nodes_within [] = []
nodes_within (split ∷ splits) = nodes_of_split split ++ nodes_within splits

-- the nodes of a tree that are read
abbrev pub nodes_grown : GrowingTree → List Single
nodes_grown tree = nodes_within tree.splits.items ++ nodes_if tree.tree
