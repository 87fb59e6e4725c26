-- Whether a tree holds at a box, the bound that it gives, and the first node that is wrong (ours).
use Rattle.std.specs.Prelude.{ℕ, suc, ◌+◌, ℤ, min, Option, Some, None, length, List}
use Rattle.coord_model.specs.Tree.{Tree, split, empty, void, bound, hair, open_leaf, nodes_of, root}
use Rattle.coord_model.specs.declared.weights.Weight.{Weight}
use Rattle.margin_rows.specs.Box.{Box}
use Rattle.margin_rows.specs.Case.{Case}
use Rattle.margin_rows.specs.Halves.{AreHalves}
use Rattle.box_range.specs.Drops.{TightensTo}
use Rattle.box_bound.specs.DualValue.{IsDualValue}
use Rattle.box_bound.specs.LowerBound.{bound_at, IsPlainBound}
use Rattle.cert_tree.specs.NodeFaults.{IsFirstWrong}
use Rattle.cert_tree.specs.NodeRules.{IsRight}
use Rattle.cert_tree.specs.declared.kind.NodeKind.{NodeKind}

-- the lower of two bounds, if there are any
abbrev pub lower : Option ℕ → Option ℕ → Option ℕ
lower None b = b
lower (Some a) None = Some a
lower (Some a) (Some b) = Some (min a b)

-- the boxes are the two halves of the tight box of a box
pub record AreTightHalves (case : Case) (box : Box) (relay at : ℕ) (low high : Box) : Type 0 where
  pub tight : Box
  pub is_tight : TightensTo case box tight
  pub halves : AreHalves tight relay at low high

-- the tree holds at the box: no node is wrong at its own; a split gives those below it the halves of its tight box.
-- The bound is the lowest of those that its leaves give: none if each leaf is `Empty` or `Void`
pub data Holds (case : Case) : Box → Tree → Option ℕ → Type 0 where
  at_split : {box low high : Box} {relay at : ℕ} {below above : Tree} {a b : Option ℕ}
      → IsRight case box (root (split relay at below above)) → AreTightHalves case box relay at low high
      → Holds case low below a → Holds case high above b
      → Holds case box (split relay at below above) (lower a b)
  at_empty : {box : Box} → IsRight case box (root empty) → Holds case box empty None
  at_void : {box : Box} {weights : List Weight}
      → IsRight case box (root (void weights)) → Holds case box (void weights) None
  at_bound : {box tight : Box} {lambda : ℕ} {weights : List Weight} {value : ℤ}
      → IsRight case box (root (bound lambda weights))
      → TightensTo case box tight → IsDualValue case tight lambda weights value
      → Holds case box (bound lambda weights) (Some (bound_at value lambda))
  at_hair : {box tight : Box} {row plain : ℕ} → IsRight case box (root (hair row))
      → TightensTo case box tight → IsPlainBound case tight plain → Holds case box (hair row) (Some plain)
  at_open_leaf : {box : Box} {lambda : ℕ} {weights : List Weight} {value : ℤ}
      → IsRight case box (root (open_leaf lambda weights))
      → IsDualValue case box lambda weights value
      → Holds case box (open_leaf lambda weights) (Some (bound_at value lambda))

-- the node with this number, counted from 1 in pre-order, is the first of the tree that is wrong, and in this way
pub data Fails (case : Case) : Box → Tree → ℕ → NodeKind → Type 0 where
  here : {box : Box} {tree : Tree} {kind : NodeKind}
      → IsFirstWrong case box (root tree) kind → Fails case box tree 1 kind
  below_low : {box low high : Box} {relay at number : ℕ} {below above : Tree} {kind : NodeKind}
      → IsRight case box (root (split relay at below above)) → AreTightHalves case box relay at low high
      → Fails case low below number kind
      → Fails case box (split relay at below above) (suc number) kind
  below_high : {box low high : Box} {relay at number : ℕ} {below above : Tree} {a : Option ℕ} {kind : NodeKind}
      → IsRight case box (root (split relay at below above)) → AreTightHalves case box relay at low high
      → Holds case low below a → Fails case high above number kind
      → Fails case box (split relay at below above) (suc (length (nodes_of below) + number)) kind
