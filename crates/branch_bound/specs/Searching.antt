-- A search as the solver keeps it: the machine's state, with the numbers of its nodes and the open
-- boxes (ours).
use Rattle.std.specs.Prelude.{◌≡◌, ℕ, ◌+◌, ◌*◌, ◌≤◌, ⊤, List, Option, length, IfSome}
use Rattle.coord_model.specs.Tree.{Tree}
use Rattle.margin_rows.specs.Box.{Box, IsFirstBox}
use Rattle.margin_rows.specs.Case.{Case, FitsCase}
use Rattle.margin_rows.specs.Gap.{IsGapEnough}
use Rattle.cert_tree.specs.Endings.{boxes}
use Rattle.cert_tree.specs.Holding.{AreTightHalves}
use Rattle.search_tree.specs.Harvest.{tree_of}
use Rattle.search_tree.specs.Plan.{Plan, closed, opened, plan_of, split}
use Rattle.search_tree.specs.declared.slot.Slot.{Slot}
use Rattle.step_rules.specs.Issuing.{IsPriced, settings_of}
use Rattle.step_rules.specs.OpenBoxes.{IsOpenBox}
use Rattle.step_rules.specs.Usable.{leaf_weights, open_with}
use Rattle.step_rules.specs.declared.issued.Issued.{Issued}
use Rattle.step_rules.specs.declared.open_box.OpenBox.{OpenBox}
use Rattle.branch_bound.specs.Facts.{IsSound}
use Rattle.branch_bound.specs.Machine.{State}

-- a search: its case, its gap and its budget, what is issued, and the nodes of its tree in slots
pub record Search : Type 0 where
  pub case : Case
  pub gap : ℕ
  pub budget : ℕ
  pub boxes : ℕ
  pub issued : Option Issued
  pub slots : List (Slot OpenBox)

-- the tree that stands in slots, its open boxes as open leaves with their weights
abbrev pub tree_in : List (Slot OpenBox) → Tree
tree_in slots =
    tree_of (λ (value : OpenBox). open_with (leaf_weights value.weights)) (plan_of slots)

-- the state of the machine
abbrev pub state_of : Search → State
state_of search = record { tree = tree_in search.slots; issued = settings_of search.issued }

-- each open leaf carries the box at its place, which has the bound of its place
abbrev pub Placed : Case → Box → Plan OpenBox → Type 0
Placed case box (split number relay at below above) =
    (low : Box) × (high : Box) × AreTightHalves case box relay at low high
    × Placed case low below × Placed case high above
Placed case box (closed number leaf) = ⊤
Placed case box (opened number bound value) =
    (value.ranges ≡ box) × (value.bound ≡ bound) × IsOpenBox case value

-- the search is as its steps leave it
pub record IsSearch (search : Search) : Type 0 where
  pub limits : FitsCase search.case
  pub gap_covers : IsGapEnough search.case search.gap
  pub some_budget : 1 ≤ search.budget
  pub budget_small : search.budget ≤ 200000
  pub first : Box
  pub is_first : IsFirstBox search.case first
  pub placed : Placed search.case first (plan_of search.slots)
  pub sound : IsSound search.case first search.gap search.budget (state_of search)
  pub counted : search.boxes ≡ boxes (tree_in search.slots)
  pub few : length search.slots ≤ 2 * search.boxes + 1
  pub priced : IfSome search.issued (IsPriced search.case)
