-- The search as a machine (ours): a state is a tree with the weights of its open leaves, and the
-- settings that are issued. A step turns one open leaf, whichever, by the rules.
use Rattle.std.specs.Prelude.{◌≡◌, ℕ, ◌⊎◌, false, Option, None, []}
use Rattle.coord_model.specs.Choice.{Settings}
use Rattle.coord_model.specs.Tree.{Tree, split, open_leaf}
use Rattle.margin_rows.specs.Box.{Box}
use Rattle.margin_rows.specs.Case.{Case}
use Rattle.cert_tree.specs.Endings.{boxes, has_open_leaf}
use Rattle.cert_tree.specs.Holding.{AreTightHalves}
use Rattle.step_rules.specs.Rules.{Handled}
use Rattle.step_rules.specs.Usable.{LeafWeights, open_with}

-- a state of the search
pub record State : Type 0 where
  pub tree : Tree
  pub issued : Option Settings

-- the first state: one open leaf without weights, and nothing issued
abbrev pub first_state : State
first_state = record { tree = open_leaf 1 []; issued = None }

-- one open leaf of the tree at this box is turned into another tree, as R says of its box and its
-- weights
pub data Turns (case : Case) (R : Box → LeafWeights → Tree → Type 0)
    : Box → Tree → Tree → Type 0 where
  here : {box : Box} {own : LeafWeights} {later : Tree} → R box own later
      → Turns case R box (open_with own) later
  in_low : {box low high : Box} {relay at : ℕ} {below above later : Tree}
      → AreTightHalves case box relay at low high → Turns case R low below later
      → Turns case R box (split relay at below above) (split relay at later above)
  in_high : {box low high : Box} {relay at : ℕ} {below above later : Tree}
      → AreTightHalves case box relay at low high → Turns case R high above later
      → Turns case R box (split relay at below above) (split relay at below later)

-- the search is done: no open leaf stands, or the budget is spent
abbrev pub IsDone : ℕ → State → Type 0
IsDone budget state = (has_open_leaf state.tree ≡ false) ⊎ (boxes state.tree ≡ budget)

-- a step leads from one state to the other
pub record IsStep (case : Case) (first : Box) (gap budget : ℕ) (before after : State) : Type 0 where
  pub goes_on : ¬ (IsDone budget before)
  pub turned : Turns case
      (λ box own later. Handled case gap box own before.issued after.issued later)
      first before.tree after.tree

-- steps, perhaps none, lead from one state to the other
pub data Run (case : Case) (first : Box) (gap budget : ℕ) : State → State → Type 0 where
  none : {state : State} → Run case first gap budget state state
  more : {before between after : State} → Run case first gap budget before between
      → IsStep case first gap budget between after → Run case first gap budget before after
