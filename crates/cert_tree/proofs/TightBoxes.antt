-- There is one tight box of a box, and one pair of halves of it, which fit if the box does.
use Rattle.std.specs.Prelude.{slice_get}
use Rattle.std.proofs.Common.{◌≡◌, ℕ, sym, ◌∙◌}
use Rattle.margin_rows.specs.Box.{Box, FitsBox}
use Rattle.margin_rows.specs.Case.{Case}
use Rattle.margin_rows.specs.Halves.{AreHalves, CanSplit, HasNext, above, up_to}
use Rattle.margin_rows.specs.Within.{with_pickup}
use Rattle.margin_rows.proofs.Places.{some_and}
use Rattle.margin_rows.proofs.Within.{fits_within}
use Rattle.box_range.specs.Drops.{IsEmptied, TightensTo}
use Rattle.box_range.proofs.Order.{drops_within, one_tight, tight_not_emptied}

-- a box has at most one tight box
pub tight_only : (case : Case) (box a b : Box) → TightensTo case box a → TightensTo case box b → a ≡ b
tight_only case box a b x y = one_tight case box a b x.led x.no_more y.led y.no_more

-- and none if it is emptied
pub tight_or_emptied : (case : Case) (box tight : Box) → TightensTo case box tight → IsEmptied case box → ⊥
tight_or_emptied case box tight is gone = tight_not_emptied case box tight gone.end is.led is.no_more gone.drops gone.empty

-- the tight box of a box that fits fits too
pub tight_fits : (case : Case) (box tight : Box) → FitsBox case box → TightensTo case box tight → FitsBox case tight
tight_fits case box tight fits is = fits_within case tight box (drops_within case box tight is.led) fits

-- a box has one low half and one high half at a step
pub halves_only : (box : Box) (relay at : ℕ) (low high low' high' : Box) → CanSplit box relay at → AreHalves box relay at low high → AreHalves box relay at low' high'
    → (low ≡ low') × (high ≡ high')
halves_only box relay at low high low' high' can a b =
    let found = some_and (slice_get box.pickup relay) (λ span. HasNext span at) can in
    let a_low : low ≡ with_pickup box relay (up_to found.0 at) = rw found.1 at a.low in
    let a_high : high ≡ with_pickup box relay (above found.0 at) = rw found.1 at a.high in
    let b_low : low' ≡ with_pickup box relay (up_to found.0 at) = rw found.1 at b.low in
    let b_high : high' ≡ with_pickup box relay (above found.0 at) = rw found.1 at b.high in
    (a_low ∙ sym b_low, a_high ∙ sym b_high)
