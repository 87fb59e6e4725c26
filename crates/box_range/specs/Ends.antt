-- What dropping the ends of a box comes to (ours).
use Rattle.margin_rows.specs.Box.{Box, HasEmptySpan}
use Rattle.margin_rows.specs.Case.{Case}
use Rattle.box_range.specs.Drops.{Drops, IsTight}
use Rattle.box_range.specs.declared.tightening.Tightened.{Tightened}
use Rattle.box_range.specs.declared.tightening.Tightened.TheVariants.{Tight, Emptied}

-- the box is tight, or has an empty span
abbrev pub IsAtEnd : Case → Box → Tightened → Type 0
IsAtEnd case box Tight = IsTight case box
IsAtEnd case box Emptied = HasEmptySpan box

-- drops lead from the box to one where they end
pub record HasEnded (case : Case) (box later : Box) (tightened : Tightened) : Type 0 where
  pub drops : Drops case box later
  pub at_end : IsAtEnd case later tightened
