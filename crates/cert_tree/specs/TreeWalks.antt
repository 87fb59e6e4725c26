-- A walk over the nodes of a whole tree (ours): where it begins, and that it passes the tree exactly if it holds.
use Rattle.std.specs.Prelude.{◌≡◌, ◌↔◌, ℕ, ◌+◌, List, [], ◌∷◌, All, false, Option, None, length}
use Rattle.coord_model.specs.Tree.{Single, Tree, nodes_of}
use Rattle.margin_rows.specs.Box.{Box, FitsBox}
use Rattle.margin_rows.specs.Case.{Case}
use Rattle.cert_tree.specs.Counting.{both, no_counts}
use Rattle.cert_tree.specs.Endings.{counts_of}
use Rattle.cert_tree.specs.Holding.{Fails, Holds, lower}
use Rattle.cert_tree.specs.Walks.{Refuses, Takes, Walk, Walked}
use Rattle.cert_tree.specs.declared.kind.NodeKind.{NodeKind}

-- the walk that begins at a box
abbrev pub walk_at : Box → Walk
walk_at box = record { due = box ∷ []; nodes = 0; counts = no_counts; bound = None; refused = false }

-- the walk after a tree: the other boxes are due, and the tree's nodes, what they come to and its bound are added
abbrev pub past_tree : Walk → List Box → Tree → Option ℕ → Walk
past_tree before others tree bound = record {
  due = others;
  nodes = before.nodes + length (nodes_of tree);
  counts = both before.counts (counts_of tree);
  bound = lower before.bound bound;
  refused = false;
}

-- the tree holds at the box, and the walk is past it
abbrev pub IsPast : Case → Walk → Box → List Box → Tree → Walk → Type 0
IsPast case before box others tree after =
    (bound : Option ℕ) × Holds case box tree bound
    × (after ≡ past_tree before others tree bound)

-- a walk takes the nodes of a tree exactly if the tree holds at the first due box, and is past it then
abbrev pub TakesIfHolds : Type 0
TakesIfHolds =
    (case : Case) (box : Box) (others : List Box) (tree : Tree) (before after : Walk)
    → before.due ≡ box ∷ others
    → Walked case before (nodes_of tree) after ↔ IsPast case before box others tree after

-- it refuses one of them exactly if the tree fails there, at that node and in that way
abbrev pub RefusesIfFails : Type 0
RefusesIfFails =
    (case : Case) (box : Box) (others : List Box) (tree : Tree) (before : Walk) (number : ℕ)
    (kind : NodeKind) → before.due ≡ box ∷ others
    → Refuses case before (nodes_of tree) number kind ↔ Fails case box tree number kind

-- a walk from a box that took the nodes of a tree has the tree's bound and what its nodes come to, so its boxes and its
-- ending; nothing is due
abbrev pub GivesAsTree : Type 0
GivesAsTree =
    (case : Case) (box : Box) (tree : Tree) (after : Walk)
    → Walked case (walk_at box) (nodes_of tree) after
    → Holds case box tree after.bound × (after.counts ≡ counts_of tree) × (after.due ≡ [])

-- a node leads a walk over boxes of a case to one walk alone
abbrev pub LeadsToOne : Type 0
LeadsToOne =
    (case : Case) (node : Single) (before one other : Walk) → All (FitsBox case) before.due
    → Takes case before node one → Takes case before node other → one ≡ other
