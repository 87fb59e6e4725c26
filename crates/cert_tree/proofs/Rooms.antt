-- What stands in the room for boxes as the first due box is tightened and cut.
use Rattle.std.specs.List.{All}
use Rattle.std.proofs.Common.{◌≡◌, ℕ, suc, ◌+◌, ◌-◌, ◌<◌, ◌≤◌, List, [], ◌∷◌, ◌++◌, length, get_or, replicate, set, take, drop, drop-cons, arith, refl, sym, ◌∙◌, ap, subst}
use Rattle.std.proofs.lemmas.List.{drop-append-le, drop-set-lt, drop-replicate, drop_all, get_or_default, get_or-set_same, length-drop, length-replicate, length-set, length-take, take-append-le, take_all}
use Rattle.std.specs.Prelude.{Option}
use Rattle.std.proofs.lemmas.List.Elements.{All-append, All-cons, All-drop, All-head, All-replicate, All-tail, All-set, All-take}
use Rattle.coord_model.specs.declared.tree.NodeLine.{NodeLine}
use Rattle.coord_model.specs.declared.tree.NodeLine.TheVariants.{Split, Empty, Void, Bound, Hair, OpenLeaf}
use Rattle.margin_rows.specs.Box.{Box, FitsBox}
use Rattle.margin_rows.specs.Case.{Case}
use Rattle.margin_rows.specs.Halves.{AreHalves, CanSplit}
use Rattle.margin_rows.specs.Within.{IsWithin}
use Rattle.box_range.specs.Drops.{TightensTo}
use Rattle.coord_model.specs.Tree.{empty}
use Rattle.coord_model.specs.declared.weights.Weight.{Weight}
use Rattle.cert_tree.specs.Judgement.{IsRightWith, single}
use Rattle.cert_tree.proofs.Splits.{can_split_some, narrowed_places, places_after, within_splits}
use Rattle.cert_tree.proofs.TightBoxes.{tight_only}
use Rattle.cert_tree.proofs.TreeLaws.{halves_fit}
use Rattle.cert_tree.specs.Room.{AreAlike, HasPlaces, IsLike, IsRoom, box_at, no_box, splits_left}
use Rattle.cert_tree.specs.Counting.{counts_by}
use Rattle.cert_tree.specs.Walks.{AreDueAfter, AtFirst}

-- the first due box and the others
pub due_cons : (room : List Box) (first : ℕ) → first < length room → drop first room ≡ box_at room first ∷ drop (first + 1) room
due_cons room first below = let same : suc first ≡ first + 1 = omega arith in drop-cons room first no_box below ∙ ap (λ (n : ℕ). box_at room first ∷ drop n room) same

-- behind a cut of the room stands the first due box
pub first_behind : (room back : List Box) (first : ℕ) (d : Box) → first < length room → back ≡ drop first room → get_or back 0 d ≡ box_at room first
first_behind room back first d below is = rw (is, due_cons room first below) refl

-- the halves where the first due box and the one before it were
pub halves_placed : (room front back : List Box) (first : ℕ) (low high : Box) → 0 < first → first < length room → front ≡ take first room → back ≡ drop first room
    → drop (first - 1) (set front (first - 1) low ++ set back 0 high) ≡ low ∷ high ∷ drop (first + 1) room
halves_placed room front back first low high some below is_front is_back =
    let front_len : length front ≡ first = rw is_front (length-take first room ∙ omega (arith, below)) in
    let len : length (set front (first - 1) low) ≡ first = length-set front (first - 1) low ∙ front_len in
    let due = due_cons room first below in
    let rest : set back 0 high ≡ high ∷ drop (first + 1) room = rw (is_back, due) refl in
    let seam : drop (first - 1) (set front (first - 1) low) ≡ low ∷ [] = last (set front (first - 1) low) (first - 1) low (omega (arith, len, some)) (get_or-set_same front (first - 1) low no_box (omega (arith, front_len, some))) in
    drop-append-le (first - 1) (set front (first - 1) low) (set back 0 high) (omega (arith, len)) ∙ ap (λ (xs : List Box). xs ++ set back 0 high) seam ∙ ap (λ (xs : List Box). low ∷ xs) rest
  where
    last : (xs : List Box) (i : ℕ) (x : Box) → suc i ≡ length xs → get_or xs i no_box ≡ x → drop i xs ≡ x ∷ []
    last xs i x len is = drop-cons xs i no_box (omega (arith, len)) ∙ ap (λ (y : Box). y ∷ drop (suc i) xs) is ∙ ap (λ (ys : List Box). x ∷ ys) (drop_all (suc i) xs (omega (arith, len)))

pub like_like : (a b c : Box) → IsLike a b → IsLike b c → IsLike a c
like_like a b c x y = record { pickup = y.pickup ∙ x.pickup; dial = y.dial ∙ x.dial }

-- boxes with equally many spans, after the halves are placed
pub placed_alike : (room front back : List Box) (first : ℕ) (low high : Box) → AreAlike room → front ≡ take first room → back ≡ drop first room
    → ((other : Box) → All (IsLike other) room → IsLike other low × IsLike other high) → AreAlike (set front (first - 1) low ++ set back 0 high)
placed_alike room front back first low high alike is_front is_back spans =
    let P = IsLike alike.0 in
    let new = spans alike.0 alike.1 in (
      alike.0,
      rw (is_front, is_back) (All-append P (set (take first room) (first - 1) low) (set (drop first room) 0 high)
          (All-set P (take first room) (first - 1) low new.0 (All-take P first room alike.1)) (All-set P (drop first room) 0 high new.1 (All-drop P first room alike.1))),
    )

module _ (case : Case) (room : List Box) (first : ℕ) (found new : Box) (ws : List Weight) (given : Option ℕ) (below : first < length room) where
  -- a split that was right at the first due box can be made where that is tightened
  pub can_cut : (relay at : ℕ) → IsRightWith case (get_or room first found) (single (Split relay at) ws) given → TightensTo case (get_or room first found) new
      → CanSplit (box_at (set room first new) first) relay at
  can_cut relay at is tight =
      let here = tight_only case (get_or room first found) is.right.asks.0 new is.right.asks.1 tight in
      rw (get_or-set_same room first new no_box below) (subst (λ (b : Box). CanSplit b relay at) here is.right.asks.2.can)

  -- the halves of a first due box that was tightened are due after it
  pub due_halves : (relay at : ℕ) (low high : Box) (later : List Box) → TightensTo case (get_or room first found) new → AreHalves (box_at (set room first new) first) relay at low high
      → later ≡ low ∷ high ∷ drop (first + 1) (set room first new) → AreDueAfter case (box_at room first) (drop (first + 1) room) (Split relay at) later
  due_halves relay at low high later tight halves is = (
    low,
    high,
    record {
      tight = new;
      is_tight = subst (λ (b : Box). TightensTo case b new) (get_or_default room first found no_box below) tight;
      halves = rw (get_or-set_same room first new no_box below) at halves;
    },
    is ∙ ap (λ (xs : List Box). low ∷ high ∷ xs) (drop-set-lt (first + 1) room first new (omega arith)),
  )

-- after any other node the others are due
pub due_others : (case : Case) (box : Box) (others : List Box) (line : NodeLine) (later : List Box) → ((relay at : ℕ) → line ≡ Split relay at → ⊥) → later ≡ others → AreDueAfter case box others line later
due_others case box others (Split relay at) later other is = absurd (other relay at refl)
due_others case box others Empty later other is = is
due_others case box others Void later other is = is
due_others case box others (Bound lambda) later other is = is
due_others case box others (Hair row) later other is = is
due_others case box others (OpenLeaf lambda) later other is = is

-- the boxes that are due after a node that is right fit if those before it do
pub due_fit : (case : Case) (box : Box) (others : List Box) (line : NodeLine) (ws : List Weight) (given : Option ℕ) (later : List Box) → IsRightWith case box (single line ws) given
    → AreDueAfter case box others line later → FitsBox case box → All (FitsBox case) others → All (FitsBox case) later
due_fit case box others (Split relay at) ws given later is due fits all =
    let fit = halves_fit case box relay at empty empty due.0 due.1 fits (record { names = record { weighed = λ k d none. absurd (omega (arith, none)); hair = λ row e. absurd (let x : Split relay at ≡ Hair row = e in cc) }; asks = is.right.asks }) due.2 in
    subst (λ (xs : List Box). All (FitsBox case) xs) (sym due.3) (All-cons (FitsBox case) due.0 (due.1 ∷ others) fit.0 (All-cons (FitsBox case) due.1 others fit.1 all))
due_fit case box others Empty ws given later is due fits all = subst (λ (xs : List Box). All (FitsBox case) xs) (sym due) all
due_fit case box others Void ws given later is due fits all = subst (λ (xs : List Box). All (FitsBox case) xs) (sym due) all
due_fit case box others (Bound lambda) ws given later is due fits all = subst (λ (xs : List Box). All (FitsBox case) xs) (sym due) all
due_fit case box others (Hair row) ws given later is due fits all = subst (λ (xs : List Box). All (FitsBox case) xs) (sym due) all
due_fit case box others (OpenLeaf lambda) ws given later is due fits all = subst (λ (xs : List Box). All (FitsBox case) xs) (sym due) all

-- there is a first due box, and it fits if all do
pub first_due : (room : List Box) (first : ℕ) → 0 < length (drop first room) → first < length room
first_due room first some = omega (arith, some, length-drop first room)

pub first_fits : (case : Case) (room : List Box) (first : ℕ) → 0 < length (drop first room) → All (FitsBox case) (drop first room)
    → FitsBox case (box_at room first) × All (FitsBox case) (drop (first + 1) room)
first_fits case room first some all =
    let whole = subst (λ (xs : List Box). All (FitsBox case) xs) (due_cons room first (first_due room first some)) all in
    (All-head (FitsBox case) (box_at room first) (drop (first + 1) room) whole, All-tail (FitsBox case) (box_at room first) (drop (first + 1) room) whole)

-- the places of a room, the first due box apart
first_places : (room : List Box) (first : ℕ) → IsRoom room first → first < length room → HasPlaces (box_at room first ∷ drop (first + 1) room) (length room)
first_places room first is below = subst (λ (xs : List Box). HasPlaces xs (length room)) (due_cons room first below) is.places

-- equal boxes, one more than the splits that they allow, are a room in which the last is due
pub begun_room : (box : Box) (room : List Box) (first : ℕ) → room ≡ replicate (splits_left box + 1) box → first ≡ length room - 1 → IsRoom room first
begun_room box room first is count =
    let size : length room ≡ splits_left box + 1 = ap (λ (xs : List Box). length xs) is ∙ length-replicate (splits_left box + 1) box in
    let last : splits_left box + 1 - first ≡ 1 = omega (arith, size, count) in
    let due : drop first room ≡ box ∷ [] = ap (λ (xs : List Box). drop first xs) is ∙ drop-replicate first (splits_left box + 1) box ∙ ap (λ (n : ℕ). replicate n box) last in
    record {
      within = omega (arith, count, size);
      alike = (box, rw is (All-replicate (IsLike box) (splits_left box + 1) box (record { pickup = refl; dial = refl })));
      places = rw (due, size) (omega arith, tt);
    }

-- a room is one still after the first due box is narrowed
pub narrowed_room : (room : List Box) (first : ℕ) (box : Box) → IsRoom room first → first < length room → IsWithin box (box_at room first) → IsRoom (set room first box) first
narrowed_room room first box is below within =
    let was = is.alike.1 first no_box below in
    let count : length (set room first box) ≡ length room = length-set room first box in
    let rest : drop (first + 1) (set room first box) ≡ drop (first + 1) room = drop-set-lt (first + 1) room first box (omega arith) in
    let here : box_at (set room first box) first ≡ box = get_or-set_same room first box no_box below in
    let due : drop first (set room first box) ≡ box ∷ drop (first + 1) room = due_cons (set room first box) first (omega (arith, below, count)) ∙ rw (here, rest) refl in
    record {
      within = omega (arith, below, count);
      alike = (is.alike.0, All-set (IsLike is.alike.0) room first box (record { pickup = within.pickup.count ∙ was.pickup; dial = within.dial.count ∙ was.dial }) is.alike.1);
      places = rw (due, count) (narrowed_places (box_at room first) box (drop (first + 1) room) (length room) within (first_places room first is below));
    }

-- and after a node that is right
pub room_after : (case : Case) (room later : List Box) (first next : ℕ) (line : NodeLine) (ws : List Weight) (given : Option ℕ) → IsRoom room first → first < length room
    → IsRightWith case (box_at room first) (single line ws) given → AreDueAfter case (box_at room first) (drop (first + 1) room) line (drop next later)
    → length later ≡ length room → next ≤ length later → AreAlike later → IsRoom later next
room_after case room later first next line ws given is below right due count within alike = record {
  within = within;
  alike = alike;
  places = rw count (places_after case (box_at room first) (drop (first + 1) room) line ws given (drop next later) (length room) right due (first_places room first is below));
}

-- before a first due box that can be split where it is tightened stands a spare one
pub spare_before : (room : List Box) (first : ℕ) (tight : Box) (relay at : ℕ) → IsRoom room first → first < length room → IsWithin tight (box_at room first)
    → CanSplit (box_at (set room first tight) first) relay at → 0 < first
spare_before room first tight relay at is below within can =
    let some = can_split_some tight relay at (rw (get_or-set_same room first tight no_box below) at can) in
    omega (arith, some, below, (first_places room first is below).0, length-drop (first + 1) room, within_splits tight (box_at room first) within)

-- the room as it is written back
pub written_back : (new rest : List Box) (len : ℕ) → length new ≡ len → take len (new ++ rest) ≡ new
written_back new rest len is = take-append-le len new rest (omega (arith, is)) ∙ take_all len new (omega (arith, is))

-- a node is at most one box
pub one_box : (line : NodeLine) → (counts_by line).boxes ≤ 1
one_box (Split relay at) = omega arith
one_box Empty = omega arith
one_box Void = omega arith
one_box (Bound lambda) = omega arith
one_box (Hair row) = omega arith
one_box (OpenLeaf lambda) = omega arith

pub at_first_due : (P : Box → Type 0) (room : List Box) (first : ℕ) → 0 < length (drop first room) → AtFirst P (drop first room) → P (box_at room first)
at_first_due P room first some at = subst (λ (xs : List Box). AtFirst P xs) (due_cons room first (first_due room first some)) at
