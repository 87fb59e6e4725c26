-- The tree of a search: its nodes with their numbers, and what its open leaves carry (ours).
use Rattle.std.specs.Prelude.{ℕ, zero, suc, ◌+◌, List, [], ◌∷◌, ◌++◌, length, Option}
use Rattle.std.specs.List.{slice_get}
use Rattle.std.specs.declared.option.Option.TheVariants.{None, Some}
use Rattle.search_tree.specs.declared.leaf.Leaf.{Leaf}
use Rattle.search_tree.specs.declared.leaf.Leaf.TheVariants.{Empty}
use Rattle.search_tree.specs.declared.slot.Slot.{Slot}
use Rattle.search_tree.specs.declared.slot.Slot.TheVariants.{Split, Closed, Open}

-- a tree of numbered nodes: a split has its relay, its step and its halves,
-- a closed leaf what closed it, an open leaf its bound and its value
pub data Plan (T : Type 0) : Type 0 where
  split : ℕ → ℕ → ℕ → Plan T → Plan T → Plan T
  closed : ℕ → Leaf → Plan T
  opened : ℕ → ℕ → T → Plan T

-- the number of the root of a tree
abbrev pub number_of : {T : Type 0} → Plan T → ℕ
number_of (split number relay at low high) = number
number_of (closed number leaf) = number
number_of (opened number bound value) = number

-- the node of a slot, where the trees below it are known by their numbers
abbrev pub node_of : {T : Type 0} → (ℕ → Plan T) → ℕ → Option (Slot T) → Plan T
node_of below number None = closed number Empty
node_of below number (Some (Split relay at low)) =
    split number relay at (below low) (below (low + 1))
node_of below number (Some (Closed leaf)) = closed number leaf
node_of below number (Some (Open bound value)) = opened number bound value

-- the tree that stands in the slots from a number down, at most so many nodes deep
abbrev pub plan_from : {T : Type 0} → ℕ → List (Slot T) → ℕ → Plan T
plan_from zero slots number = closed number Empty
plan_from (suc most) slots number =
    node_of (λ n. plan_from most slots n) number (slice_get slots number)

-- the tree that stands in the slots from a number down: no deeper than there are slots
unfoldable pub plan_at : {T : Type 0} → List (Slot T) → ℕ → Plan T
plan_at slots number = plan_from (length slots) slots number

-- the tree that stands in the slots: its root has the number 0
abbrev pub plan_of : {T : Type 0} → List (Slot T) → Plan T
plan_of slots = plan_at slots 0

-- the bound and the number of each open leaf, a low half before its high half
abbrev pub entries : {T : Type 0} → Plan T → List (ℕ × ℕ)
entries (split number relay at low high) = entries low ++ entries high
entries (closed number leaf) = []
entries (opened number bound value) = (bound, number) ∷ []

-- the tree has an open leaf of this number, bound and value
pub data HasOpen {T : Type 0} (number bound : ℕ) (value : T) : Plan T → Type 0 where
  open_here : HasOpen number bound value (opened number bound value)
  open_low : {n relay at : ℕ} {l h : Plan T}
      → HasOpen number bound value l → HasOpen number bound value (split n relay at l h)
  open_high : {n relay at : ℕ} {l h : Plan T}
      → HasOpen number bound value h → HasOpen number bound value (split n relay at l h)
