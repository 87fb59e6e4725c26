-- How a tree stands in a table of slots, with its open leaves in a queue (ours).
use Rattle.std.specs.Prelude.{◌≡◌, ℕ, ◌+◌, ◌≤◌, ◌<◌, List, length, if◌then◌else◌, ◌==◌}
use Rattle.std.specs.List.{slice_get, sum_by}
use Rattle.std.specs.declared.option.Option.TheVariants.{Some}
use Rattle.search_tree.specs.declared.slot.Slot.{Slot}
use Rattle.search_tree.specs.declared.slot.Slot.TheVariants.{Split, Closed, Open}
use Rattle.search_tree.specs.Plan.{Plan, split, closed, opened, number_of, plan_at, plan_of, entries}

-- each node of the tree is what its slot says; a split's halves have two greater numbers in a row
abbrev pub Stands : {T : Type 0} → List (Slot T) → Plan T → Type 0
Stands slots (split number relay at low high) =
    (slice_get slots number ≡ Some (Split relay at (number_of low)))
    × (number_of high ≡ number_of low + 1)
    × (number < number_of low) × Stands slots low × Stands slots high
Stands slots (closed number leaf) = slice_get slots number ≡ Some (Closed leaf)
Stands slots (opened number bound value) = slice_get slots number ≡ Some (Open bound value)

-- how often a tree has a number
abbrev pub times : {T : Type 0} → ℕ → Plan T → ℕ
times k (split number relay at low high) =
    (if k == number then 1 else 0) + (times k low + times k high)
times k (closed number leaf) = if k == number then 1 else 0
times k (opened number bound value) = if k == number then 1 else 0

-- two lists have the same members, each as often: every sum over them is the same
abbrev pub SameMembers : {X : Type 0} → List X → List X → Type 0
SameMembers {X} xs ys = (f : X → ℕ) → sum_by f xs ≡ sum_by f ys

-- the table and the queue hold one tree: no number occurs twice,
-- and the queue has exactly the open leaves
pub record IsArena {T : Type 0} (slots : List (Slot T)) (queue : List (ℕ × ℕ)) : Type 0 where
  pub stands : Stands slots (plan_of slots)
  pub once : (k : ℕ) → times k (plan_of slots) ≤ 1
  pub queued : SameMembers queue (entries (plan_of slots))
  pub few : length slots ≤ 400001

-- the table holds one tree from a number down: no number occurs twice in it
pub record IsTreeAt {T : Type 0} (slots : List (Slot T)) (number : ℕ) : Type 0 where
  pub stands : Stands slots (plan_at slots number)
  pub once : (k : ℕ) → times k (plan_at slots number) ≤ 1

-- all slots are kept but those of the tree
abbrev pub Spares : {T : Type 0} → List (Slot T) → List (Slot T) → Plan T → Type 0
Spares before after plan = (k : ℕ) → times k plan ≡ 0 → slice_get after k ≡ slice_get before k
