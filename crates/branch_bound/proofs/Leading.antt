-- The bounds and numbers that a search keeps tell which of its open boxes comes first.
use Rattle.std.specs.Prelude.{⊤}
use Rattle.std.proofs.Common.{◌≡◌, ℕ, ◌≤◌, inl, inr, Option, Some, None, List, [], arith, refl, sym, ap, ◌∙◌, subst}
use Rattle.std.proofs.lemmas.List.Elements.{All-contains}
use Rattle.coord_model.specs.Tree.{Tree, bound, empty, hair, open_leaf, split, void}
use Rattle.margin_rows.specs.Box.{Box, FitsBox}
use Rattle.margin_rows.specs.Case.{Case}
use Rattle.margin_rows.proofs.Spanned.{first_box_only}
use Rattle.cert_tree.specs.NodeRules.{IsRight}
use Rattle.cert_tree.proofs.TreeLaws.{same_halves}
use Rattle.search_tree.specs.Harvest.{tree_of}
use Rattle.search_tree.specs.Plan.{HasOpen, Plan, closed, entries, open_here, open_high, open_low, opened, plan_of, split as split_plan}
use Rattle.search_tree.specs.Steps.{ComesBy, IsFirst, IsLead}
use Rattle.search_tree.specs.declared.slot.Slot.{Slot}
use Rattle.search_tree.proofs.Firsts.{all_open, open_entry, turn_map}
use Rattle.step_rules.specs.OpenBoxes.{IsOpenBound, IsOpenBox}
use Rattle.step_rules.specs.Usable.{LeafWeights, leaf_weights}
use Rattle.step_rules.specs.declared.issued.Issued.{Issued}
use Rattle.step_rules.specs.declared.open_box.OpenBox.{OpenBox}
use Rattle.step_rules.proofs.Bests.{bound_only}
use Rattle.branch_bound.specs.Advancing.{HasNotFallen, IsAdvance}
use Rattle.branch_bound.specs.Facts.{Every, IsFair}
use Rattle.branch_bound.specs.Leading.{ComesFirst, IsLeadOf, IsLeast, IsOpenAt, TurnsFirst, at_high, at_leaf, at_low}
use Rattle.branch_bound.specs.Machine.{IsDone}
use Rattle.branch_bound.specs.Searching.{IsSearch, Placed, Search, state_of, tree_in}
use Rattle.branch_bound.proofs.Placing.{leaf_of, none_open, placed_bound, placed_open}
use Rattle.branch_bound.proofs.Starting.{steps_or_empty}
use Rattle.branch_bound.proofs.Stepped.{next, next_is}
use Rattle.branch_bound.proofs.Turning.{every_map}

-- an open box has one bound
open_bound_only : (case : Case) (box : Box) (weights : LeafWeights) (a b : ℕ) → FitsBox case box → IsOpenBound case box weights a → IsOpenBound case box weights b → a ≡ b
open_bound_only case box weights a b fits one other = elim (steps_or_empty box) [
  | inl gone ↦ one.none gone ∙ sym (other.none gone)
  | inr steps ↦ bound_only case box weights a b fits steps (one.steps steps) (other.steps steps)
]

-- the tree is no split
abbrev IsLeaf : Tree → Type 0
IsLeaf (split relay at below above) = ⊥
IsLeaf empty = ⊤
IsLeaf (void weights) = ⊤
IsLeaf (bound lambda weights) = ⊤
IsLeaf (hair row) = ⊤
IsLeaf (open_leaf lambda weights) = ⊤

module _ (case : Case) where
  -- what an open leaf carries is the box at its place, with its weights
  record IsCarried (number : ℕ) (place : Box) (weights : LeafWeights) (plan : Plan OpenBox) : Type 0 where
    pub value : OpenBox
    pub there : HasOpen number value.bound value plan
    pub ranges : value.ranges ≡ place
    pub weights_are : leaf_weights value.weights ≡ weights
    pub is : IsOpenBox case value

  carried_here : (number b : ℕ) (place : Box) (weights : LeafWeights) (v : OpenBox) → leaf_weights v.weights ≡ weights → Placed case place (opened number b v) → IsCarried number place weights (opened number b v)
  carried_here number b place weights v same (ranges, kept, is) =
      record { value = v; there = subst (λ (k : ℕ). HasOpen number k v (opened number b v)) (sym kept) open_here; ranges = ranges; weights_are = same; is = is }

  carried : (number : ℕ) (place : Box) (weights : LeafWeights) (box : Box) (plan : Plan OpenBox) → IsOpenAt case number place weights box plan → Every case (IsRight case) box (tree_of leaf_of plan) → Placed case box plan → IsCarried number place weights plan
  carried number place weights box plan (at_leaf {bound = b} {value = v} same) every placed = carried_here number b place weights v same placed
  carried number place weights box plan (at_low {low = l} {high = h} {n = n} {relay = relay} {at = at} {below = below} {above = above} tight there) (low', high', node, halves, every_low, every_high) (low, high, are, all_low, all_high) =
      let same = same_halves case box relay at (tree_of leaf_of below) (tree_of leaf_of above) low high l h node are tight in
      let right = same_halves case box relay at (tree_of leaf_of below) (tree_of leaf_of above) low' high' l h node halves tight in
      let c = carried number place weights l below there (subst (λ (b : Box). Every case (IsRight case) b (tree_of leaf_of below)) right.0 every_low) (subst (λ (b : Box). Placed case b below) same.0 all_low) in
      record { value = c.value; there = open_low c.there; ranges = c.ranges; weights_are = c.weights_are; is = c.is }
  carried number place weights box plan (at_high {low = l} {high = h} {n = n} {relay = relay} {at = at} {below = below} {above = above} tight there) (low', high', node, halves, every_low, every_high) (low, high, are, all_low, all_high) =
      let same = same_halves case box relay at (tree_of leaf_of below) (tree_of leaf_of above) low high l h node are tight in
      let right = same_halves case box relay at (tree_of leaf_of below) (tree_of leaf_of above) low' high' l h node halves tight in
      let c = carried number place weights h above there (subst (λ (b : Box). Every case (IsRight case) b (tree_of leaf_of above)) right.1 every_high) (subst (λ (b : Box). Placed case b above) same.1 all_high) in
      record { value = c.value; there = open_high c.there; ranges = c.ranges; weights_are = c.weights_are; is = c.is }

  -- the same of a tree that is one open leaf
  carried_root : (number : ℕ) (place : Box) (weights : LeafWeights) (box : Box) (plan : Plan OpenBox) → tree_of leaf_of plan ≡ open_leaf 1 [] → IsOpenAt case number place weights box plan → Placed case box plan → IsCarried number place weights plan
  carried_root number place weights box plan is (at_leaf {bound = b} {value = v} same) placed = carried_here number b place weights v same placed
  carried_root number place weights box plan is (at_low tight there) placed = absurd (subst IsLeaf (sym is) tt)
  carried_root number place weights box plan is (at_high tight there) placed = absurd (subst IsLeaf (sym is) tt)

  -- an open leaf stands at the box that it carries
  open_place : (box : Box) (plan : Plan OpenBox) {n b : ℕ} {v : OpenBox} → Placed case box plan → HasOpen n b v plan → IsOpenAt case n v.ranges (leaf_weights v.weights) box plan
  open_place box (split_plan m relay at l h) (low, high, halves, all_low, all_high) (open_low there) = at_low halves (open_place low l all_low there)
  open_place box (split_plan m relay at l h) (low, high, halves, all_low, all_high) (open_high there) = at_high halves (open_place high h all_high there)
  open_place box (closed m leaf) placed there = elim there [ ]
  open_place box (opened m b v) (ranges, kept, is) open_here = subst (λ (x : Box). IsOpenAt case m v.ranges (leaf_weights v.weights) x (opened m b v)) ranges (at_leaf refl)

module _ (search : Search) (is : IsSearch search) where
  abbrev plan : Plan OpenBox
  plan = plan_of search.slots

  found : (number : ℕ) (place : Box) (weights : LeafWeights) → IsOpenAt search.case number place weights is.first plan → IsCarried search.case number place weights plan
  found number place weights there = elim is.sound.fair [
    | inl root ↦ carried_root search.case number place weights is.first plan root.0 there is.placed
    | inr fair ↦ carried search.case number place weights is.first plan there
        (every_map search.case (IsFair search.case search.gap (state_of search).issued) (IsRight search.case) is.first (tree_in search.slots) (λ b node f. f.right) fair) is.placed
  ]

  -- its box has the bound that it carries
  found_bound : (number : ℕ) (place : Box) (weights : LeafWeights) (c : IsCarried search.case number place weights plan) → IsOpenBound search.case place weights c.value.bound
  found_bound number place weights c =
      subst (λ (b : Box). IsOpenBound search.case b weights c.value.bound) c.ranges (subst (λ (w : LeafWeights). IsOpenBound search.case c.value.ranges w c.value.bound) c.weights_are c.is.bound)

  first_comes : (number : ℕ) (value : OpenBox) → IsFirst plan number value → ComesFirst search.case is.first plan number value.bound
  first_comes number value first = record {
    box = value.ranges;
    weights = leaf_weights value.weights;
    stands = open_place search.case is.first plan is.placed first.open_leaf;
    gives = (placed_open search.case is.first plan is.placed first.open_leaf).bound;
    least = λ n b w there.
        let c = found n b w there in
        let by = All-contains (ComesBy (first.bound, number)) (entries plan) (c.value.bound, n) first.least (open_entry plan c.there) in
        (c.value.bound, found_bound n b w c, subst (λ (k : ℕ). ComesBy (k, number) (c.value.bound, n)) (sym (placed_bound search.case is.first plan is.placed first.open_leaf)) by);
    only = λ b w there.
        let c = found number b w there in
        let same = first.only c.value.bound c.value c.there in
        (sym c.ranges ∙ ap (λ (v : OpenBox). v.ranges) same, sym c.weights_are ∙ ap (λ (v : OpenBox). leaf_weights v.weights) same);
  }

  pub lead_some : (number : ℕ) (value : OpenBox) → IsFirst plan number value → IsLeadOf search (Some value.bound)
  lead_some number value first = record { first = is.first; is_first = is.is_first; number = number; comes_first = first_comes number value first }

  pub lead_none : entries plan ≡ [] → IsLeadOf search None
  lead_none none = none_open plan none

  -- the least bound is the least that the tree keeps
  kept_lead : (least : ℕ) → IsLeast search least → IsLead plan (Some least)
  kept_lead least lead = (
    (lead.number, open_entry plan (subst (λ (k : ℕ). HasOpen lead.number k c.value plan) (sym same) c.there)),
    all_open (λ e. least ≤ e.0) plan (λ n b v there.
        let open_box = placed_open search.case is.first plan is.placed there in
        let other = comes.least n v.ranges (leaf_weights v.weights) (open_place search.case is.first plan is.placed there) in
        let same_bound = open_bound_only search.case v.ranges (leaf_weights v.weights) other.0 v.bound open_box.fits other.1 open_box.bound in
        omega (arith, other.2.0, same_bound, placed_bound search.case is.first plan is.placed there)),
  )
    where
      comes : ComesFirst search.case is.first plan lead.number least
      comes = subst (λ (b : Box). ComesFirst search.case b plan lead.number least) (sym (first_box_only search.case is.first lead.first is.is_first lead.is_first)) lead.comes_first

      c : IsCarried search.case lead.number comes.box comes.weights plan
      c = found lead.number comes.box comes.weights comes.stands

      same : least ≡ c.value.bound
      same = open_bound_only search.case comes.box comes.weights least c.value.bound (subst (λ (b : Box). FitsBox search.case b) c.ranges c.is.fits) comes.gives (found_bound lead.number comes.box comes.weights c)

module _ (search : Search) (issued : Option Issued) (slots : List (Slot OpenBox)) (is : IsSearch search) (goes_on : ¬ (IsDone search.budget (state_of search)))
    (advance : IsAdvance search.case search.gap search.issued issued search.slots slots) where
  pub turns_first : TurnsFirst search (next search issued slots)
  turns_first = record { first = is.first; is_first = is.is_first; turned = turn_map _ _ (λ n v later q. ((v.bound, first_comes search is n v q.0), q.1)) advance.first }

  -- the lead has not fallen
  pub not_fallen : HasNotFallen search (next search issued slots)
  not_fallen least later lead lead_later =
      let kept = kept_lead (next search issued slots) (next_is search issued slots is goes_on advance) later lead_later in
      All-contains (λ e. least ≤ e.0) (entries (plan_of slots)) (later, kept.0.0) (advance.leads is.first least is.placed (kept_lead search is least lead)) kept.0.1
