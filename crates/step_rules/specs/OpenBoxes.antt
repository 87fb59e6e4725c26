-- Open boxes of a search: with the weights that an open leaf writes, and their bound (ours).
use Rattle.std.specs.Prelude.{◌≡◌, ℕ, IfSome}
use Rattle.margin_rows.specs.Box.{Box, FitsBox, HasEmptySpan, HasNoEmptySpan}
use Rattle.margin_rows.specs.Case.{Case}
use Rattle.box_bound.specs.Standing.{StandFor}
use Rattle.box_range.specs.Drops.{IsTight}
use Rattle.step_rules.specs.Usable.{CanBound, HasBound, LeafWeights, leaf_weights}
use Rattle.step_rules.specs.declared.open_box.OpenBox.{OpenBox}
use Rattle.step_rules.specs.declared.tight_box.TightBox.{TightBox}

-- the bound of a box that is open: the one that its weights give it, or 0 if a span is empty
pub record IsOpenBound (case : Case) (box : Box) (weights : LeafWeights) (bound : ℕ) : Type 0 where
  pub steps : HasNoEmptySpan box → HasBound case box weights bound
  pub none : HasEmptySpan box → bound ≡ 0

-- an open box of the case with its weights and its bound; its parts stand for it
pub record IsOpenBox (case : Case) (box : OpenBox) : Type 0 where
  pub fits : FitsBox case box.ranges
  pub weights : CanBound case (leaf_weights box.weights)
  pub bound : IsOpenBound case box.ranges (leaf_weights box.weights) box.bound
  pub parts : IfSome box.parts (λ parts. StandFor case box.ranges parts)

-- a tight box of the case with its parts
pub record IsTightBox (case : Case) (box : TightBox) : Type 0 where
  pub fits : FitsBox case box.ranges
  pub tight : IsTight case box.ranges
  pub parts : StandFor case box.ranges box.parts
