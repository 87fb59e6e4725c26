-- What each node by itself asks of its box (ours).
use Rattle.std.specs.Prelude.{◌≡◌, ℕ, ◌<◌, ⊤, ℤ, pos, ◌<ℤ◌, length, All}
use Rattle.coord_model.specs.Tree.{Single}
use Rattle.coord_model.specs.declared.tree.NodeLine.{NodeLine}
use Rattle.coord_model.specs.declared.tree.NodeLine.TheVariants.{Split, Empty, Void, Bound, Hair, OpenLeaf}
use Rattle.margin_rows.specs.Box.{Box, HasNoEmptySpan}
use Rattle.margin_rows.specs.Case.{Case, row_at, rows_in}
use Rattle.margin_rows.specs.Halves.{CanSplit}
use Rattle.margin_rows.specs.Lowest.{HasOnePickup, lowest_of}
use Rattle.margin_rows.specs.Margin.{MeetsStrictly}
use Rattle.box_bound.specs.DualValue.{IsDualValue}
use Rattle.box_range.specs.Drops.{IsEmptied, TightensTo}

-- each row that the line and the weights name is one of the case
pub record NamesRows (case : Case) (node : Single) : Type 0 where
  pub weighed : All (λ w. w.row < length (rows_in case)) node.weights
  pub hair : (row : ℕ) → node.line ≡ Hair row → row < length (rows_in case)

-- the dual value without the cost is above 0, so that no settings of the box loosely meet every row
pub record IsVoid (case : Case) (tight : Box) (node : Single) : Type 0 where
  pub value : ℤ
  pub dual : IsDualValue case tight 0 node.weights value
  pub above : pos 0 <ℤ value

-- each relay has one pickup step, and the lowest settings do not strictly meet the row
pub record IsHairAt (case : Case) (tight : Box) (row : ℕ) : Type 0 where
  pub one_pickup : HasOnePickup tight
  pub unmet : ¬ (MeetsStrictly case (lowest_of tight) (row_at case row))

-- the relay is one of the case, and has the step and the next one in the tight box
pub record IsSplitAt (case : Case) (tight : Box) (relay at : ℕ) : Type 0 where
  pub relay_fits : relay < length case.study.relays
  pub can : CanSplit tight relay at

-- what a node asks of the tight box of its box
abbrev pub AsksTight : Case → Box → Single → NodeLine → Type 0
AsksTight case tight node (Split relay at) = IsSplitAt case tight relay at
AsksTight case tight node Empty = ⊥
AsksTight case tight node Void = IsVoid case tight node
AsksTight case tight node (Bound lambda) = ⊤
AsksTight case tight node (Hair row) = IsHairAt case tight row
AsksTight case tight node (OpenLeaf lambda) = ⊥

-- what a node asks of its box: an `Empty` that drops empty it, an open leaf a step in each span, any other what it asks
-- of the tight box, which there is
abbrev pub Asks : Case → Box → Single → NodeLine → Type 0
Asks case box node Empty = IsEmptied case box
Asks case box node (OpenLeaf lambda) = HasNoEmptySpan box
Asks case box node line = (tight : Box) × TightensTo case box tight × AsksTight case tight node line

-- the node by itself, those below it left aside, is right at its box
pub record IsRight (case : Case) (box : Box) (node : Single) : Type 0 where
  pub names : NamesRows case node
  pub asks : Asks case box node node.line
