-- Trees whose nodes are still to be printed (ours), the next one first.
use Rattle.std.specs.Prelude.{ℕ, ◌+◌, ◌≤◌, ⊤, List, [], ◌∷◌, ◌++◌, codes, length, map}
use Rattle.std.specs.Borrow.{Bor}
use Rattle.std.specs.List.{AllByRecursion}
use Rattle.coord_model.specs.Tree.{Tree, Single, split, empty, void, bound, hair, open_leaf, depth, nodes_of, shape}
use Rattle.coord_model.specs.declared.tree.Node.{Node}
use Rattle.cert_text.specs.Nodes.{IsNode, node_line}

-- the nodes of trees, one tree after the other
abbrev pub forest : List Tree → List Single
forest [] = []
forest (t ∷ ts) = nodes_of t ++ forest ts

-- the trees of what stands on a path, the last first
abbrev pub waiting : List (Bor Node) → List Tree
waiting [] = []
waiting (node ∷ nodes) = waiting nodes ++ shape node.now ∷ []

-- the trees below the root of a tree
abbrev pub below : Tree → List Tree
below (split relay at low high) = low ∷ high ∷ []
below empty = []
below (void weights) = []
below (bound lambda weights) = []
below (hair row) = []
below (open_leaf lambda weights) = []

-- each tree leaves room on the path for those below it, and has nodes within their limits
abbrev pub FitPath : List Tree → Type 0
FitPath [] = ⊤
FitPath (t ∷ ts) = (length ts + depth t ≤ 3072) × AllByRecursion IsNode (nodes_of t) × FitPath ts

-- the lines of their nodes, and the last line
abbrev pub nodes_on : List Tree → List (List ℕ)
nodes_on trees = map node_line (forest trees) ++ codes "end" ∷ []
