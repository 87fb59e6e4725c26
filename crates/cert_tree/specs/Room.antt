-- Room for the boxes that are due (ours): a list of boxes with equally many spans. The due ones stand at its end, the
-- first of them foremost.
use Rattle.std.specs.Prelude.{◌≡◌, ℕ, suc, ◌+◌, ◌-◌, ◌≤◌, ⊤, List, [], ◌∷◌, length, drop, sum_by, All, slice_index_or}
use Rattle.margin_rows.specs.Box.{Box}
use Rattle.margin_rows.specs.declared.span.Steps.{Steps}

-- the box has as many spans of each kind as the other
pub record IsLike (other box : Box) : Type 0 where
  pub pickup : length box.pickup ≡ length other.pickup
  pub dial : length box.dial ≡ length other.dial

-- the boxes have equally many spans
abbrev pub AreAlike : List Box → Type 0
AreAlike room = (other : Box) × All (IsLike other) room

-- a box without spans
abbrev pub no_box : Box
no_box = record { pickup = []; dial = [] }

-- the box at a place of the room
abbrev pub box_at : List Box → ℕ → Box
box_at room place = slice_index_or room place no_box

-- the splits that a span allows: one fewer than its steps
abbrev pub splits_of : Steps → ℕ
splits_of span = span.past - span.low - 1

-- the splits that a box allows one below another: those of all its spans of pickup steps
abbrev pub splits_left : Box → ℕ
splits_left box = sum_by splits_of box.pickup

-- each due box has a place, beside those due after it and one for each split that it allows
abbrev pub HasPlaces : List Box → ℕ → Type 0
HasPlaces [] places = ⊤
HasPlaces (box ∷ others) places =
    (splits_left box + suc (length others) ≤ places) × HasPlaces others places

-- the boxes from this place on are due, and there is room for all that can come to be due
pub record IsRoom (room : List Box) (first : ℕ) : Type 0 where
  pub within : first ≤ length room
  pub alike : AreAlike room
  pub places : HasPlaces (drop first room) (length room)
