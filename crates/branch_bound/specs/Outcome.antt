-- What a search comes to (ours): a state that its steps reach and in which it is done, and what
-- that says.
use Rattle.std.specs.Prelude.{◌≡◌, ◌≢◌, ℕ, ◌+◌, ◌*◌, ◌≤◌, ⊤, false, Option, Some, None, Result, Ok, Err, All, IfSome, IsSomeAnd}
use Rattle.std.specs.Option.{option_map}
use Rattle.coord_model.specs.Choice.{Settings, choice_data}
use Rattle.coord_model.specs.Tree.{shape}
use Rattle.coord_model.specs.TreeLimits.{FitsTree}
use Rattle.coord_model.specs.declared.choice.Ending.TheVariants.{BudgetSpent, Hairline}
use Rattle.margin_rows.specs.Box.{Box, IsFirstBox}
use Rattle.margin_rows.specs.Case.{Case, rows_in}
use Rattle.margin_rows.specs.FirstBox.{IsInFirstBox}
use Rattle.margin_rows.specs.Gap.{IsGapEnough}
use Rattle.margin_rows.specs.Margin.{MeetsStrictly}
use Rattle.margin_rows.specs.Price.{cost_of}
use Rattle.cert_tree.specs.Endings.{boxes, ending_of, has_open_leaf}
use Rattle.cert_tree.specs.Holding.{Holds}
use Rattle.branch_bound.specs.Advancing.{IsRefused}
use Rattle.branch_bound.specs.Choices.{choices}
use Rattle.branch_bound.specs.Facts.{IsSound}
use Rattle.branch_bound.specs.HairLeaf.{IsHairPlace}
use Rattle.branch_bound.specs.Machine.{IsDone, Run, State, first_state}
use Rattle.branch_bound.specs.declared.fault.SearchFault.{SearchFault}
use Rattle.branch_bound.specs.declared.outcome.Outcome.{Outcome}

-- settings are issued that cost at most the gap more than any settings that strictly meet every row
abbrev pub PassesNoneOver : Case → ℕ → Option Settings → Type 0
PassesNoneOver case gap issued =
    (settings : Settings) → IsInFirstBox case settings
    → All (MeetsStrictly case settings) (rows_in case)
    → IsSomeAnd issued (λ held. cost_of case held ≤ cost_of case settings + gap)

-- the outcome is that of a state of the machine
pub record IsOutcome (case : Case) (gap budget : ℕ) (state : State)
    (outcome : Outcome) : Type 0 where
  pub first : Box
  pub is_first : IsFirstBox case first
  pub sound : IsSound case first gap budget state
  pub tree : shape outcome.tree ≡ state.tree
  pub issued : option_map choice_data outcome.issued ≡ state.issued
  pub first_box : IfSome state.issued (IsInFirstBox case)
  pub cost : outcome.cost ≡ option_map (cost_of case) state.issued
  pub same_gap : outcome.gap ≡ gap
  pub same_budget : outcome.budget ≡ budget
  pub boxes : outcome.boxes ≡ boxes state.tree
  pub fits : FitsTree state.tree
  pub holds : Holds case first state.tree outcome.bound
  pub ending : ending_of state.tree outcome.bound outcome.cost gap budget ≡ Some outcome.ending
  -- a hair leaf is shown exactly at a hairline
  pub hair : IfSome outcome.hair (IsHairPlace case first state.tree)
  pub hair_there : outcome.ending ≡ Hairline → IsSomeAnd outcome.hair (λ place. ⊤)
  pub hair_alone : outcome.ending ≢ Hairline → outcome.hair ≡ None
  -- without open boxes nothing better was passed over
  pub none_passed : has_open_leaf state.tree ≡ false → PassesNoneOver case gap state.issued
  -- a budget of twice the pickup choices is not spent
  pub suffices : 2 * choices first ≤ budget → outcome.ending ≢ BudgetSpent

-- the outcome is that of a done state to which steps lead from the first state
pub record IsReached (case : Case) (gap budget : ℕ) (outcome : Outcome) : Type 0 where
  pub state : State
  pub first : Box
  pub is_first : IsFirstBox case first
  pub steps : Run case first gap budget first_state state
  pub done : IsDone budget state
  pub is_outcome : IsOutcome case gap budget state outcome

-- a search ends with such an outcome, if the gap is at least the least gap; else it is refused
abbrev pub Ends : Case → ℕ → ℕ → Result Outcome SearchFault → Type 0
Ends case gap budget (Ok outcome) = IsReached case gap budget outcome × IsGapEnough case gap
Ends case gap budget (Err fault) = IsRefused case gap fault
