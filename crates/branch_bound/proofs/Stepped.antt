-- What the solver keeps from step to step.
use Rattle.std.proofs.Common.{◌≡◌, ℕ, suc, ◌+◌, ◌≤◌, Option, None, List, length, arith, refl, sym, ap, ◌∙◌, subst, inl, inr}
use Rattle.std.proofs.lemmas.Bool.{cases_eq}
use Rattle.coord_model.specs.Tree.{Tree}
use Rattle.margin_rows.specs.Box.{Box, IsFirstBox}
use Rattle.margin_rows.specs.Case.{Case, FitsCase}
use Rattle.margin_rows.specs.Gap.{IsGapEnough}
use Rattle.margin_rows.proofs.Spanned.{first_box_fits, first_box_only}
use Rattle.search_tree.specs.Harvest.{tree_of}
use Rattle.search_tree.specs.Plan.{Plan, opened, plan_of}
use Rattle.search_tree.specs.declared.slot.Slot.{Slot}
use Rattle.step_rules.specs.Issuing.{settings_of}
use Rattle.step_rules.specs.OpenBoxes.{IsOpenBox}
use Rattle.step_rules.specs.Usable.{leaf_weights, open_with, plain_weights}
use Rattle.step_rules.specs.declared.issued.Issued.{Issued}
use Rattle.step_rules.specs.declared.open_box.OpenBox.{OpenBox}
use Rattle.cert_tree.specs.Endings.{boxes}
use Rattle.branch_bound.specs.Advancing.{IsAdvance, IsStepOf}
use Rattle.branch_bound.specs.Facts.{IsSound}
use Rattle.branch_bound.specs.Machine.{IsDone, IsStep, Run, State, first_state, more}
use Rattle.branch_bound.specs.Searching.{IsSearch, Placed, Search, state_of, tree_in}
use Rattle.branch_bound.proofs.Placing.{leaf_of}
use Rattle.branch_bound.proofs.Sounding.{first_sound, handled_boxes, step_sound, turn_boxes}
use Rattle.branch_bound.proofs.Starting.{steps_or_empty}

-- the search after one open box was handled
abbrev pub next : Search → Option Issued → List (Slot OpenBox) → Search
next search issued slots = record { case = search.case; gap = search.gap; budget = search.budget; boxes = search.boxes + 1; issued = issued; slots = slots }

module _ (search : Search) (issued : Option Issued) (slots : List (Slot OpenBox)) (is : IsSearch search) (goes_on : ¬ (IsDone search.budget (state_of search)))
    (advance : IsAdvance search.case search.gap search.issued issued search.slots slots) where
  step_at : (first : Box) → IsFirstBox search.case first → IsStep search.case first search.gap search.budget (state_of search) (state_of (next search issued slots))
  step_at first is_first = record {
    goes_on = goes_on;
    turned = advance.turned first (subst (λ (b : Box). Placed search.case b (plan_of search.slots)) (first_box_only search.case is.first first is.is_first is_first) is.placed);
  }

  pub next_step : IsStepOf search (next search issued slots)
  next_step = record { same_case = refl; same_gap = refl; same_budget = refl; one_more = omega arith; step = step_at }

  one_more : boxes (tree_in slots) ≡ suc (boxes (tree_in search.slots))
  one_more = turn_boxes search.case _ is.first (tree_in search.slots) (tree_in slots)
      (λ b own tree handled. handled_boxes search.case search.gap b own (settings_of search.issued) (settings_of issued) tree handled) (advance.turned is.first is.placed)

  pub next_is : IsSearch (next search issued slots)
  next_is = record {
    limits = is.limits;
    gap_covers = is.gap_covers;
    some_budget = is.some_budget;
    budget_small = is.budget_small;
    first = is.first;
    is_first = is.is_first;
    placed = advance.placed is.first is.placed;
    sound = step_sound search.case is.first search.gap search.budget (first_box_fits search.case is.first is.is_first) (state_of search) (state_of (next search issued slots)) (step_at is.first is.is_first) is.sound;
    counted = omega (arith, one_more, is.counted);
    few = omega (arith, advance.count, is.few);
    priced = advance.priced;
  }

-- a fact of two searches as it is seen from what the one was
pub as_seen : (P : Search → Search → Type 0) (seen search later : Search) → search ≡ seen → P search later → P seen later
as_seen P seen search later is fact = subst (λ (s : Search). P s later) is fact

-- a search that goes on has room for two nodes more
pub room : (search : Search) → IsSearch search → ¬ (IsDone search.budget (state_of search)) → length search.slots + 2 ≤ 400001
room search is goes_on = elim (cases_eq search.boxes search.budget) [
  | inl spent ↦ absurd (goes_on (inr (sym is.counted ∙ spent)))
  | inr apart ↦ omega (arith, is.few, is.budget_small, apart, within)
]
  where
    within : search.boxes ≤ search.budget
    within = omega (arith, is.sound.within, is.counted)

-- a search of one open box
module _ (case : Case) (gap budget : ℕ) (value : OpenBox) (slots : List (Slot OpenBox)) (limits : FitsCase case) (covers : IsGapEnough case gap) (some : 1 ≤ budget) (few : budget ≤ 200000)
    (open_box : IsOpenBox case value) (is_first : IsFirstBox case value.ranges) (weights : leaf_weights value.weights ≡ plain_weights)
    (plan : plan_of slots ≡ opened 0 value.bound value) (count : length slots ≡ 1) where
  abbrev pub start : Search
  start = record { case = case; gap = gap; budget = budget; boxes = 0; issued = None; slots = slots }

  pub start_state : state_of start ≡ first_state
  start_state = ap (λ (t : Tree). record { tree = t; issued = None }) (ap (tree_of leaf_of) plan ∙ ap open_with weights)

  pub start_is : IsSearch start
  start_is = record {
    limits = limits;
    gap_covers = covers;
    some_budget = some;
    budget_small = few;
    first = value.ranges;
    is_first = is_first;
    placed = subst (λ (p : Plan OpenBox). Placed case value.ranges p) (sym plan) (refl, refl, open_box);
    sound = subst (λ (s : State). IsSound case value.ranges gap budget s) (sym start_state) (first_sound case value.ranges gap budget open_box.fits (steps_or_empty value.ranges));
    counted = sym (ap (λ (s : State). boxes s.tree) start_state);
    few = omega (arith, count);
    priced = tt;
  }

-- the steps from the first state to a search
abbrev pub IsRun : Search → Type 0
IsRun search = (first : Box) → IsFirstBox search.case first → Run search.case first search.gap search.budget first_state (state_of search)

-- one step more
pub run_more : (before after : Search) → IsStepOf before after → IsRun before → IsRun after
run_more before after step run first is_first =
    let is : IsFirstBox before.case first = subst (λ (k : Case). IsFirstBox k first) step.same_case is_first in
    subst (λ (k : Case). Run k first after.gap after.budget first_state (state_of after)) (sym step.same_case)
    (subst (λ (g : ℕ). Run before.case first g after.budget first_state (state_of after)) (sym step.same_gap)
    (subst (λ (b : ℕ). Run before.case first before.gap b first_state (state_of after)) (sym step.same_budget) (more (run first is) (step.step first is))))
