-- A walk over the nodes of a tree in pre-order (ours): the boxes that are due, and what the nodes so far come to. Each
-- node is taken at the first due box.
use Rattle.std.specs.Prelude.{◌≡◌, ℕ, suc, List, [], ◌∷◌, Bool, false, Option, ◌⊎◌}
use Rattle.coord_model.specs.Tree.{Single}
use Rattle.coord_model.specs.declared.tree.NodeLine.{NodeLine}
use Rattle.coord_model.specs.declared.tree.NodeLine.TheVariants.{Split, Empty, Void, Bound, Hair, OpenLeaf}
use Rattle.margin_rows.specs.Box.{Box}
use Rattle.margin_rows.specs.Case.{Case}
use Rattle.cert_tree.specs.Counting.{both, counts_by}
use Rattle.cert_tree.specs.Holding.{AreTightHalves, lower}
use Rattle.cert_tree.specs.Judgement.{IsRightWith}
use Rattle.cert_tree.specs.NodeFaults.{IsFirstWrong}
use Rattle.cert_tree.specs.declared.counts.Counts.{Counts}
use Rattle.cert_tree.specs.declared.kind.NodeKind.{NodeKind}

-- the boxes that are due, how many nodes were taken, what they come to, their lowest bound, and whether a node was refused
pub record Walk : Type 0 where
  pub due : List Box
  pub nodes : ℕ
  pub counts : Counts
  pub bound : Option ℕ
  pub refused : Bool

-- it is so of the first due box, and there is one
abbrev pub AtFirst : (Box → Type 0) → List Box → Type 0
AtFirst P [] = ⊥
AtFirst P (box ∷ others) = P box

-- the boxes that are due after a node: before the others, the halves of a split's tight box, the low one first
abbrev pub AreDueAfter : Case → Box → List Box → NodeLine → List Box → Type 0
AreDueAfter case box others (Split relay at) later =
    (low : Box) × (high : Box) × AreTightHalves case box relay at low high
    × (later ≡ low ∷ high ∷ others)
AreDueAfter case box others Empty later = later ≡ others
AreDueAfter case box others Void later = later ≡ others
AreDueAfter case box others (Bound lambda) later = later ≡ others
AreDueAfter case box others (Hair row) later = later ≡ others
AreDueAfter case box others (OpenLeaf lambda) later = later ≡ others

-- the walk takes the node, which is right at the first due box, and goes on so
pub record Takes (case : Case) (before : Walk) (node : Single) (after : Walk) : Type 0 where
  pub box : Box
  pub others : List Box
  pub given : Option ℕ
  pub first : before.due ≡ box ∷ others
  pub right : IsRightWith case box node given
  pub due : AreDueAfter case box others node.line after.due
  pub nodes : after.nodes ≡ suc before.nodes
  pub counts : after.counts ≡ both before.counts (counts_by node.line)
  pub bound : after.bound ≡ lower before.bound given
  pub refused : after.refused ≡ false

-- the walk takes the nodes one after another
abbrev pub Walked : Case → Walk → List Single → Walk → Type 0
Walked case walk [] later = later ≡ walk
Walked case walk (node ∷ nodes) later =
    (next : Walk) × Takes case walk node next × Walked case next nodes later

-- the walk takes the nodes before the one with this number, counted from 1, and that one is wrong first in this way
abbrev pub Refuses : Case → Walk → List Single → ℕ → NodeKind → Type 0
Refuses case walk [] number kind = ⊥
Refuses case walk (node ∷ nodes) number kind =
    (AtFirst (λ box. IsFirstWrong case box node kind) walk.due × (number ≡ 1))
    ⊎ ((next : Walk) × (more : ℕ) × Takes case walk node next
    × Refuses case next nodes more kind × (number ≡ suc more))
