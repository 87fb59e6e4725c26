-- What tightening keeps, from the drops and their end alone.
use Rattle.std.proofs.Common.{◌≡◌, ◌↔◌, refl}
use Rattle.margin_rows.specs.Box.{Box, HasEmptySpan, FitsBox}
use Rattle.margin_rows.specs.Case.{Case}
use Rattle.box_range.specs.Drops.{Drops, IsTight, IsEmptied}
use Rattle.box_range.specs.Ends.{HasEnded}
use Rattle.box_range.specs.declared.tightening.Tightened.{Tightened}
use Rattle.box_range.specs.declared.tightening.Tightened.TheVariants.{Tight, Emptied}
use Rattle.box_range.proofs.Order.{drops_within, one_tight, tight_not_emptied}
use Rattle.margin_rows.proofs.Within.{fits_within}

module _ (case : Case) (box later : Box) where
  pub ended_tight : (t : Tightened) → HasEnded case box later t → t ≡ Tight → IsTight case later
  ended_tight t end is = rw is at end.at_end

  pub ended_empty : (t : Tightened) → HasEnded case box later t → t ≡ Emptied → HasEmptySpan later
  ended_empty t end is = rw is at end.at_end

  pub ended_emptied : (t : Tightened) → HasEnded case box later t → (t ≡ Emptied) ↔ IsEmptied case box
  ended_emptied Tight end = (λ absurdly. cc, λ e. absurd (tight_not_emptied case box later e.end end.drops end.at_end e.drops e.empty))
  ended_emptied Emptied end = (λ is. record { end = later; drops = end.drops; empty = end.at_end }, λ e. refl)

  pub ended_only : (t : Tightened) → HasEnded case box later t → (other : Box) → Drops case box other → IsTight case other → (t ≡ Tight) × (later ≡ other)
  ended_only Tight end other drops tight = (refl, one_tight case box later other end.drops end.at_end drops tight)
  ended_only Emptied end other drops tight = absurd (tight_not_emptied case box other later drops tight end.drops end.at_end)

  pub ended_fits : (t : Tightened) → HasEnded case box later t → FitsBox case box → FitsBox case later
  ended_fits t end fits = fits_within case later box (drops_within case box later end.drops) fits
