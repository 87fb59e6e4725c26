-- The splits that boxes allow: a box within another allows no more, and each half of a split allows fewer than the box.
-- So a room that suffices for the due boxes suffices after a node.
use Rattle.std.specs.Prelude.{IsSomeAnd, Option, slice_get, sum_by}
use Rattle.std.proofs.Common.{◌≡◌, ℕ, zero, suc, ◌+◌, ◌<◌, ◌≤◌, List, ◌∷◌, length, get_or, set, take, arith, sym, ap, subst}
use Rattle.std.proofs.lemmas.List.{take_all}
use Rattle.std.proofs.lemmas.List.Sums.{sum_by_more, sum_by_more_le, sum_by-set}
use Rattle.std.proofs.lemmas.Option.{get_or_from_slice_get, slice_get_within}
use Rattle.coord_model.specs.declared.tree.NodeLine.{NodeLine}
use Rattle.coord_model.specs.declared.tree.NodeLine.TheVariants.{Split, Empty, Void, Bound, Hair, OpenLeaf}
use Rattle.coord_model.specs.declared.weights.Weight.{Weight}
use Rattle.margin_rows.specs.Box.{Box, IsShownAs, no_steps}
use Rattle.margin_rows.specs.Case.{Case}
use Rattle.margin_rows.specs.Halves.{AreHalves, CanSplit, HasNext, above, up_to}
use Rattle.margin_rows.specs.Within.{IsWithin, with_pickup}
use Rattle.margin_rows.specs.declared.span.Span.{Span}
use Rattle.margin_rows.specs.declared.span.Steps.{Steps}
use Rattle.margin_rows.proofs.Places.{some_and}
use Rattle.box_range.proofs.Order.{drops_within}
use Rattle.cert_tree.specs.Holding.{AreTightHalves}
use Rattle.cert_tree.specs.Judgement.{IsRightWith, single}
use Rattle.cert_tree.specs.Room.{HasPlaces, splits_left, splits_of}
use Rattle.cert_tree.specs.Walks.{AreDueAfter}
use Rattle.cert_tree.proofs.TightBoxes.{tight_only}

-- a box within another allows at most as many splits
pub within_splits : (inner outer : Box) → IsWithin inner outer → splits_left inner ≤ splits_left outer
within_splits inner outer within =
    let all = so_far (length inner.pickup) (let e : length inner.pickup ≤ length inner.pickup = omega arith in e) in
    let count = within.pickup.count in
    let whole_inner : take (length inner.pickup) inner.pickup ≡ inner.pickup = take_all (length inner.pickup) inner.pickup (omega arith) in
    let whole_outer : take (length inner.pickup) outer.pickup ≡ outer.pickup = take_all (length inner.pickup) outer.pickup (omega (arith, count)) in
    rw (whole_inner, whole_outer) at all
  where
    so_far : (n : ℕ) → n ≤ length inner.pickup → sum_by splits_of (take n inner.pickup) ≤ sum_by splits_of (take n outer.pickup)
    so_far zero below = omega arith
    so_far (suc n) below =
        let same : suc n ≡ n + 1 = omega arith in
        let less = so_far n (omega (arith, below)) in
        let one = within.pickup.each n in
        let more_inner = sum_by_more splits_of inner.pickup n no_steps (omega (arith, below)) in
        let more_outer = sum_by_more splits_of outer.pickup n no_steps (omega (arith, below, within.pickup.count)) in
        rw same (omega (arith, less, more_inner, more_outer, one.low, one.past))

-- a box that can be split allows a split
pub can_split_some : (box : Box) (relay at : ℕ) → CanSplit box relay at → 0 < splits_left box
can_split_some box relay at can =
    let found = some_and (slice_get box.pickup relay) (λ span. HasNext span at) can in
    let one : splits_of (get_or box.pickup relay no_steps) ≡ splits_of found.0 = ap splits_of (get_or_from_slice_get box.pickup relay found.0 no_steps found.1) in
    omega (arith, sum_by_more_le splits_of box.pickup relay no_steps (slice_get_within box.pickup relay found.0 found.1), one, found.2.from, found.2.next)

-- each half of a box allows fewer splits than the box
pub halves_splits : (box low high : Box) (relay at : ℕ) → CanSplit box relay at → AreHalves box relay at low high → (splits_left low < splits_left box) × (splits_left high < splits_left box)
halves_splits box low high relay at can are =
    let found = some_and (slice_get box.pickup relay) (λ span. HasNext span at) can in
    let span = found.0 in
    let below = slice_get_within box.pickup relay span found.1 in
    let here : get_or box.pickup relay no_steps ≡ span = get_or_from_slice_get box.pickup relay span no_steps found.1 in
    let is_low : low ≡ with_pickup box relay (up_to span at) = rw found.1 at are.low in
    let is_high : high ≡ with_pickup box relay (above span at) = rw found.1 at are.high in
    let was : splits_of (get_or box.pickup relay no_steps) ≡ splits_of span = ap splits_of here in
    let lower = sum_by-set splits_of box.pickup relay (up_to span at) no_steps below in
    let upper = sum_by-set splits_of box.pickup relay (above span at) no_steps below in
    let sum_low : splits_left low ≡ sum_by splits_of (set box.pickup relay (up_to span at)) = ap splits_left is_low in
    let sum_high : splits_left high ≡ sum_by splits_of (set box.pickup relay (above span at)) = ap splits_left is_high in
    let from = found.2.from in
    let next = found.2.next in
    (omega (arith, was, lower, sum_low, from, next), omega (arith, was, upper, sum_high, from, next))

module _ (case : Case) (box : Box) (relay at : ℕ) (ws : List Weight) (given : Option ℕ) (low high : Box) (is : IsRightWith case box (single (Split relay at) ws) given) (halves : AreTightHalves case box relay at low high) where
  -- so does each half of the tight box of a box
  pub tight_halves_splits : (splits_left low < splits_left box) × (splits_left high < splits_left box)
  tight_halves_splits =
      let tight = halves.tight in
      let same = tight_only case box is.right.asks.0 tight is.right.asks.1 halves.is_tight in
      let can = subst (λ (b : Box). CanSplit b relay at) same is.right.asks.2.can in
      let fewer = halves_splits tight low high relay at can halves.halves in
      let within = within_splits tight box (drops_within case box tight halves.is_tight.led) in
      (omega (arith, fewer.0, within), omega (arith, fewer.1, within))

-- the due boxes have places still after one is narrowed
pub narrowed_places : (box new : Box) (others : List Box) (places : ℕ) → IsWithin new box → HasPlaces (box ∷ others) places → HasPlaces (new ∷ others) places
narrowed_places box new others places within have = (omega (arith, have.0, within_splits new box within), have.1)

-- and after a node that is right
pub places_after : (case : Case) (box : Box) (others : List Box) (line : NodeLine) (ws : List Weight) (given : Option ℕ) (later : List Box) (places : ℕ) → IsRightWith case box (single line ws) given
    → AreDueAfter case box others line later → HasPlaces (box ∷ others) places → HasPlaces later places
places_after case box others (Split relay at) ws given later places is due have =
    let fewer = tight_halves_splits case box relay at ws given due.0 due.1 is due.2 in
    subst (λ (xs : List Box). HasPlaces xs places) (sym due.3) (omega (arith, fewer.0, have.0), (omega (arith, fewer.1, have.0), have.1))
places_after case box others Empty ws given later places is due have = subst (λ (xs : List Box). HasPlaces xs places) (sym due) have.1
places_after case box others Void ws given later places is due have = subst (λ (xs : List Box). HasPlaces xs places) (sym due) have.1
places_after case box others (Bound lambda) ws given later places is due have = subst (λ (xs : List Box). HasPlaces xs places) (sym due) have.1
places_after case box others (Hair row) ws given later places is due have = subst (λ (xs : List Box). HasPlaces xs places) (sym due) have.1
places_after case box others (OpenLeaf lambda) ws given later places is due have = subst (λ (xs : List Box). HasPlaces xs places) (sym due) have.1

-- the splits of the relays so far, and of one more
pub one_relay_more : (spans : List Steps) (relay so_far more sum : ℕ) (shown : Span) → so_far ≡ sum_by splits_of (take relay spans) → IsSomeAnd (slice_get spans relay) (λ span. IsShownAs span shown)
    → ((span : Steps) → IsShownAs span shown → more ≡ splits_of span) → sum ≡ so_far + more → sum ≡ sum_by splits_of (take (relay + 1) spans)
one_relay_more spans relay so_far more sum shown is here each total =
    let found = some_and (slice_get spans relay) (λ span. IsShownAs span shown) here in
    let one : splits_of (get_or spans relay no_steps) ≡ splits_of found.0 = ap splits_of (get_or_from_slice_get spans relay found.0 no_steps found.1) in
    omega (arith, is, total, each found.0 found.2, one, sum_by_more splits_of spans relay no_steps (slice_get_within spans relay found.0 found.1))
