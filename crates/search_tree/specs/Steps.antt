-- One step of a search: which open leaf comes first, and what it is turned into (ours).
use Rattle.std.specs.Prelude.{◌≡◌, ℕ, ◌+◌, ◌≤◌, ◌<◌, List, [], length, All, Contains, Option}
use Rattle.std.specs.declared.option.Option.TheVariants.{None, Some}
use Rattle.search_tree.specs.declared.leaf.Leaf.{Leaf}
use Rattle.search_tree.specs.Plan.{Plan, split, closed, opened, entries, HasOpen}

-- an open leaf of this bound and number comes no later than another:
-- its bound is less, or the same with no greater number
abbrev pub ComesBy : ℕ × ℕ → ℕ × ℕ → Type 0
ComesBy entry other = (entry.0 ≤ other.0) × (entry.0 ≡ other.0 → entry.1 ≤ other.1)

-- one of the open leaves comes first: none comes before it
pub record IsFirstOf (all : List (ℕ × ℕ)) (entry : ℕ × ℕ) : Type 0 where
  pub listed : Contains all entry
  pub least : All (ComesBy entry) all

-- some leaf is open
abbrev pub IsOpen : {T : Type 0} → Plan T → Type 0
IsOpen plan = 0 < length (entries plan)

-- the open leaf that comes first has this number and this value; no other open leaf has its number
pub record IsFirst {T : Type 0} (plan : Plan T) (number : ℕ) (value : T) : Type 0 where
  pub bound : ℕ
  pub open_leaf : HasOpen number bound value plan
  pub least : All (ComesBy (bound, number)) (entries plan)
  pub only : (b : ℕ) (other : T) → HasOpen number b other plan → other ≡ value

-- the least bound of the open leaves, if a leaf is open
abbrev pub IsLead : {T : Type 0} → Plan T → Option ℕ → Type 0
IsLead plan None = entries plan ≡ []
IsLead plan (Some least) =
    ((number : ℕ) × Contains (entries plan) (least, number))
    × All (λ entry. least ≤ entry.0) (entries plan)

-- one open leaf is turned into a tree that Q allows for its number and its value;
-- nothing else changes
pub data Turns {T : Type 0} (Q : ℕ → T → Plan T → Type 0) : Plan T → Plan T → Type 0 where
  turn_here : {number bound : ℕ} {value : T} {after : Plan T}
      → Q number value after → Turns Q (opened number bound value) after
  turn_low : {number relay at : ℕ} {l h after : Plan T}
      → Turns Q l after → Turns Q (split number relay at l h) (split number relay at after h)
  turn_high : {number relay at : ℕ} {l h after : Plan T}
      → Turns Q h after → Turns Q (split number relay at l h) (split number relay at l after)

-- the open leaf that comes first is closed with the leaf
abbrev pub Closes : {T : Type 0} → Leaf → Plan T → Plan T → Type 0
Closes leaf before =
    Turns (λ number value after. IsFirst before number value × (after ≡ closed number leaf)) before

-- the open leaf that comes first becomes a split over two open leaves,
-- which have the next two numbers
abbrev pub IsSplitInto : {T : Type 0} → ℕ → ℕ → ℕ × T → ℕ × T → ℕ → Plan T → Plan T → Type 0
IsSplitInto relay at low high next before =
    Turns (λ number value after. IsFirst before number value
    × (after ≡ split number relay at (opened next low.0 low.1) (opened (next + 1) high.0 high.1))) before
