-- Which open leaf comes first (ours): of those whose boxes have the least bound the one made first.
-- Boxes are those at the places of the leaves, bounds those that the leaves' weights give them.
use Rattle.std.specs.Prelude.{◌≡◌, ℕ, ◌<◌, All, Option, Some, None, false}
use Rattle.margin_rows.specs.Box.{Box, IsFirstBox}
use Rattle.margin_rows.specs.Case.{Case}
use Rattle.cert_tree.specs.Endings.{has_open_leaf}
use Rattle.cert_tree.specs.Holding.{AreTightHalves}
use Rattle.search_tree.specs.Plan.{Plan, closed, entries, opened, plan_of, split}
use Rattle.search_tree.specs.Steps.{ComesBy, Turns}
use Rattle.search_tree.specs.declared.leaf.Leaf.{Leaf}
use Rattle.step_rules.specs.OpenBoxes.{IsOpenBound}
use Rattle.step_rules.specs.Usable.{LeafWeights, leaf_weights}
use Rattle.step_rules.specs.declared.open_box.OpenBox.{OpenBox}
use Rattle.branch_bound.specs.Searching.{Search, tree_in}

-- in the tree at a box, the open leaf of this number has this box at its place, and these weights
pub data IsOpenAt (case : Case) (number : ℕ) (place : Box) (weights : LeafWeights)
    : Box → Plan OpenBox → Type 0 where
  at_leaf : {bound : ℕ} {value : OpenBox} → leaf_weights value.weights ≡ weights
      → IsOpenAt case number place weights place (opened number bound value)
  at_low : {box low high : Box} {n relay at : ℕ} {below above : Plan OpenBox}
      → AreTightHalves case box relay at low high → IsOpenAt case number place weights low below
      → IsOpenAt case number place weights box (split n relay at below above)
  at_high : {box low high : Box} {n relay at : ℕ} {below above : Plan OpenBox}
      → AreTightHalves case box relay at low high → IsOpenAt case number place weights high above
      → IsOpenAt case number place weights box (split n relay at below above)

-- the open leaf of this number comes first, and has this bound: each open leaf has a bound, and
-- that is greater, or the same with no lower number
pub record ComesFirst (case : Case) (first : Box) (plan : Plan OpenBox)
    (number bound : ℕ) : Type 0 where
  pub box : Box
  pub weights : LeafWeights
  pub stands : IsOpenAt case number box weights first plan
  pub gives : IsOpenBound case box weights bound
  pub least : (n : ℕ) (b : Box) (w : LeafWeights) → IsOpenAt case n b w first plan
      → (other : ℕ) × IsOpenBound case b w other × ComesBy (bound, number) (other, n)
  pub only : (b : Box) (w : LeafWeights) → IsOpenAt case number b w first plan
      → (b ≡ box) × (w ≡ weights)

-- the least bound of the open boxes is this one
pub record IsLeast (search : Search) (least : ℕ) : Type 0 where
  pub first : Box
  pub is_first : IsFirstBox search.case first
  pub number : ℕ
  pub comes_first : ComesFirst search.case first (plan_of search.slots) number least

-- the lead of the search: the least bound of the open boxes, and none exactly if no box is open
abbrev pub IsLeadOf : Search → Option ℕ → Type 0
IsLeadOf search None = has_open_leaf (tree_in search.slots) ≡ false
IsLeadOf search (Some least) = IsLeast search least

-- a leaf is closed, or split: its halves are open and made after all open leaves, the low one first
pub data IsTurnedInto (before : Plan OpenBox) : Plan OpenBox → Type 0 where
  is_closed : {number : ℕ} {leaf : Leaf} → IsTurnedInto before (closed number leaf)
  is_split : {number relay at lower upper low_bound high_bound : ℕ} {low high : OpenBox}
      → All (λ entry. entry.1 < lower) (entries before) → lower < upper
      → IsTurnedInto before
      (split number relay at (opened lower low_bound low) (opened upper high_bound high))

-- the open leaf that comes first is turned, and no other node changes
pub record TurnsFirst (before after : Search) : Type 0 where
  pub first : Box
  pub is_first : IsFirstBox before.case first
  pub turned : Turns
      (λ number value later.
      ((bound : ℕ) × ComesFirst before.case first (plan_of before.slots) number bound)
      × IsTurnedInto (plan_of before.slots) later)
      (plan_of before.slots) (plan_of after.slots)
