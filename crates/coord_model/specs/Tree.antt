-- The tree of a certificate as plain data: its nodes, with what is below each (ours).
use Rattle.std.specs.Prelude.{ℕ, suc, List, [], ◌∷◌, ◌++◌, max}
use Rattle.coord_model.specs.declared.tree.Node.{Node}
use Rattle.coord_model.specs.declared.tree.Node.TheVariants.{Split', Empty, Void, Bound, Hair, OpenLeaf}
use Rattle.coord_model.specs.declared.tree.NodeLine.{NodeLine}
use Rattle.coord_model.specs.declared.tree.NodeLine.TheVariants as Line
use Rattle.coord_model.specs.declared.weights.Weight.{Weight}

-- a tree of nodes; a split has its relay, its step, its low half and its high half
pub data Tree : Type 0 where
  split : ℕ → ℕ → Tree → Tree → Tree
  empty : Tree
  void : List Weight → Tree
  bound : ℕ → List Weight → Tree
  hair : ℕ → Tree
  open_leaf : ℕ → List Weight → Tree

-- the tree of a node, without the room of its boxes and lists
abbrev pub shape : Node → Tree
shape (Split' relay at p low q high) = split relay at (shape low) (shape high)
shape Empty = empty
shape (Void weights) = void weights.items
shape (Bound weights) = bound weights.lambda weights.rows.items
shape (Hair row) = hair row
shape (OpenLeaf weights) = open_leaf weights.lambda weights.rows.items

-- a node by itself: its line, and the weights of its rows
pub record Single : Type 0 where
  pub line : NodeLine
  pub weights : List Weight

-- the root of a tree by itself
abbrev pub root : Tree → Single
root (split relay at low high) = record { line = Line.Split relay at; weights = [] }
root empty = record { line = Line.Empty; weights = [] }
root (void weights) = record { line = Line.Void; weights = weights }
root (bound lambda weights) = record { line = Line.Bound lambda; weights = weights }
root (hair row) = record { line = Line.Hair row; weights = [] }
root (open_leaf lambda weights) = record { line = Line.OpenLeaf lambda; weights = weights }

-- the nodes of a tree in pre-order: a node before those below it, the low half before the high half
abbrev pub nodes_of : Tree → List Single
nodes_of (split relay at low high) = root (split relay at low high) ∷ (nodes_of low ++ nodes_of high)
nodes_of empty = root empty ∷ []
nodes_of (void weights) = root (void weights) ∷ []
nodes_of (bound lambda weights) = root (bound lambda weights) ∷ []
nodes_of (hair row) = root (hair row) ∷ []
nodes_of (open_leaf lambda weights) = root (open_leaf lambda weights) ∷ []

-- the splits on the longest path of a tree
abbrev pub depth : Tree → ℕ
depth (split relay at low high) = suc (max (depth low) (depth high))
depth empty = 0
depth (void weights) = 0
depth (bound lambda weights) = 0
depth (hair row) = 0
depth (open_leaf lambda weights) = 0
