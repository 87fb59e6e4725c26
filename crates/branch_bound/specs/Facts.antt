-- What is true of each state of the search (ours).
use Rattle.std.specs.Prelude.{◌≡◌, ℕ, ◌≤◌, ◌⊎◌, ⊤, Option, [], IfSome, IsSomeAnd}
use Rattle.coord_model.specs.Choice.{Settings}
use Rattle.coord_model.specs.Tree.{Single, Tree, bound, empty, hair, open_leaf, root, split, void}
use Rattle.coord_model.specs.TreeLimits.{FitLeaves}
use Rattle.coord_model.specs.declared.tree.NodeLine.{NodeLine}
use Rattle.coord_model.specs.declared.tree.NodeLine.TheVariants as Line
use Rattle.margin_rows.specs.Box.{Box, HasEmptySpan}
use Rattle.margin_rows.specs.Case.{Case}
use Rattle.margin_rows.specs.Least.{IsStrictLeast, IsStrictLeastOf}
use Rattle.margin_rows.specs.Price.{cost_of}
use Rattle.box_range.specs.Drops.{TightensTo}
use Rattle.cert_tree.specs.Endings.{boxes}
use Rattle.cert_tree.specs.Holding.{AreTightHalves}
use Rattle.cert_tree.specs.NodeRules.{IsRight}
use Rattle.step_rules.specs.Offers.{Reaches, lowest_pickups}
use Rattle.step_rules.specs.Usable.{HasBound, LeafWeights}
use Rattle.branch_bound.specs.Machine.{State}

-- each node of the tree, those below it left aside, is as Q says of its box
abbrev pub Every : Case → (Box → Single → Type 0) → Box → Tree → Type 0
Every case Q box (split relay at below above) =
    (low : Box) × (high : Box) × Q box (root (split relay at below above))
    × AreTightHalves case box relay at low high × Every case Q low below × Every case Q high above
Every case Q box empty = Q box (root empty)
Every case Q box (void weights) = Q box (root (void weights))
Every case Q box (bound lambda weights) = Q box (root (bound lambda weights))
Every case Q box (hair row) = Q box (root (hair row))
Every case Q box (open_leaf lambda weights) = Q box (root (open_leaf lambda weights))

-- the later settings are there if the earlier ones are, and cost no more
abbrev pub AreNoDearer : Case → Option Settings → Option Settings → Type 0
AreNoDearer case before after =
    IfSome before (λ held. IsSomeAnd after (λ now. cost_of case now ≤ cost_of case held))

-- the bound of a closed leaf reaches the cutoff
pub record ReachesCutoff (case : Case) (gap : ℕ) (issued : Option Settings) (box : Box)
    (weights : LeafWeights) : Type 0 where
  pub tight : Box
  pub is_tight : TightensTo case box tight
  pub bound : ℕ
  pub gives : HasBound case tight weights bound
  pub reaches : Reaches case gap issued bound

-- if the lowest pickups of the tight box have strict-least settings, settings that cost no more are
-- issued
pub record IsCovered (case : Case) (issued : Option Settings) (box : Box) : Type 0 where
  pub tight : Box
  pub is_tight : TightensTo case box tight
  pub offer : Option Settings
  pub least : IsStrictLeastOf case (lowest_pickups tight) offer
  pub no_dearer : AreNoDearer case offer issued

-- what the settings that are issued owe to a node
abbrev pub Owes : Case → ℕ → Option Settings → Box → Single → NodeLine → Type 0
Owes case gap issued box node (Line.Split relay at) = IsCovered case issued box
Owes case gap issued box node Line.Empty = ⊤
Owes case gap issued box node Line.Void = ⊤
Owes case gap issued box node (Line.Bound lambda) =
    ReachesCutoff case gap issued box (record { lambda = lambda; rows = node.weights })
Owes case gap issued box node (Line.Hair row) = IsCovered case issued box
Owes case gap issued box node (Line.OpenLeaf lambda) = ⊤

-- the node is right at its box, and is owed nothing
pub record IsFair (case : Case) (gap : ℕ) (issued : Option Settings) (box : Box)
    (node : Single) : Type 0 where
  pub right : IsRight case box node
  pub owes : Owes case gap issued box node node.line

-- no node is wrong, but that a root which is still open may stand at a box with an empty span
abbrev pub IsFairTree : Case → Box → ℕ → State → Type 0
IsFairTree case first gap state = ((state.tree ≡ open_leaf 1 []) × HasEmptySpan first)
    ⊎ Every case (IsFair case gap state.issued) first state.tree

-- the state is sound: its nodes are right and owed nothing, the weights of its leaves are within
-- the limits, the issued settings strict-least of their pickups, and the boxes within the budget
pub record IsSound (case : Case) (first : Box) (gap budget : ℕ) (state : State) : Type 0 where
  pub fair : IsFairTree case first gap state
  pub leaves : FitLeaves state.tree
  pub least : IfSome state.issued (λ held. IsStrictLeast case held.pickup held)
  pub within : boxes state.tree ≤ budget
