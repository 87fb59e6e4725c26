-- What the solver does with a search (ours).
use Rattle.std.specs.Prelude.{◌≡◌, ℕ, suc, ◌+◌, ◌<◌, ◌≤◌, ⊤, List, Option, Some, Result, Ok, Err, length, All, IfSome}
use Rattle.margin_rows.specs.Box.{Box, IsFirstBox}
use Rattle.margin_rows.specs.Case.{Case}
use Rattle.margin_rows.specs.Gap.{IsGapEnough, IsLeastGap}
use Rattle.search_tree.specs.Plan.{entries, plan_of}
use Rattle.search_tree.specs.Steps as steps
use Rattle.search_tree.specs.Steps.{IsFirst, IsLead}
use Rattle.search_tree.specs.declared.slot.Slot.{Slot}
use Rattle.step_rules.specs.Issuing.{IsPriced, settings_of}
use Rattle.step_rules.specs.Rules.{Handled}
use Rattle.step_rules.specs.declared.issued.Issued.{Issued}
use Rattle.step_rules.specs.declared.open_box.OpenBox.{OpenBox}
use Rattle.branch_bound.specs.Leading.{IsLeast, IsTurnedInto}
use Rattle.branch_bound.specs.Machine.{IsStep, Turns, first_state}
use Rattle.branch_bound.specs.Searching.{Placed, Search, state_of, tree_in}
use Rattle.branch_bound.specs.declared.fault.SearchFault.{SearchFault}
use Rattle.branch_bound.specs.declared.fault.SearchFault.TheVariants.{GapTooSmall, NoMemory}

-- the open box of the tree that comes first was handled, and settings may have been issued
pub record IsAdvance (case : Case) (gap : ℕ) (issued later : Option Issued)
    (slots more : List (Slot OpenBox)) : Type 0 where
  pub first : steps.Turns
      (λ number value tree. IsFirst (plan_of slots) number value × IsTurnedInto (plan_of slots) tree)
      (plan_of slots) (plan_of more)
  pub turned : (first : Box) → Placed case first (plan_of slots)
      → Turns case
      (λ box own tree. Handled case gap box own (settings_of issued) (settings_of later) tree)
      first (tree_in slots) (tree_in more)
  pub placed : (first : Box) → Placed case first (plan_of slots) → Placed case first (plan_of more)
  pub leads : (first : Box) (least : ℕ) → Placed case first (plan_of slots)
      → IsLead (plan_of slots) (Some least)
      → All (λ entry. least ≤ entry.0) (entries (plan_of more))
  pub priced : IfSome later (IsPriced case)
  pub count : length more ≤ length slots + 2

-- the search went one step on: a step of the machine, with one box more
pub record IsStepOf (before after : Search) : Type 0 where
  pub same_case : after.case ≡ before.case
  pub same_gap : after.gap ≡ before.gap
  pub same_budget : after.budget ≡ before.budget
  pub one_more : after.boxes ≡ suc before.boxes
  pub step : (first : Box) → IsFirstBox before.case first
      → IsStep before.case first before.gap before.budget (state_of before) (state_of after)

-- the least bound of the open boxes did not fall
abbrev pub HasNotFallen : Search → Search → Type 0
HasNotFallen before after =
    (least later : ℕ) → IsLeast before least → IsLeast after later → least ≤ later

-- the search is at its beginning
pub record IsAtStart (case : Case) (gap budget : ℕ) (search : Search) : Type 0 where
  pub same_case : search.case ≡ case
  pub same_gap : search.gap ≡ gap
  pub same_budget : search.budget ≡ budget
  pub none_yet : search.boxes ≡ 0
  pub state : state_of search ≡ first_state

-- the search is refused because the gap is below the least gap, with both, or for want of memory
abbrev pub IsRefused : Case → ℕ → SearchFault → Type 0
IsRefused case gap (GapTooSmall given least) = (given ≡ gap) × IsLeastGap case least × (gap < least)
IsRefused case gap NoMemory = ⊤

-- a search begins, or is refused
abbrev pub IsBegun : Case → ℕ → ℕ → Result Search SearchFault → Type 0
IsBegun case gap budget (Ok search) = IsAtStart case gap budget search × IsGapEnough case gap
IsBegun case gap budget (Err fault) = IsRefused case gap fault
