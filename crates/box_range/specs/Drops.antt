-- Drops and tight boxes (ours): an end of a span that no choice of the box can use at some row is dropped.
use Rattle.std.specs.Prelude.{◌≡◌, ℕ, ◌<◌, Contains, All}
use Rattle.coord_model.specs.Choice.{Settings}
use Rattle.coord_model.specs.declared.study.Row.{Row}
use Rattle.margin_rows.specs.Box.{Box, HasEmptySpan, LiesIn, HasNoEmptySpan}
use Rattle.margin_rows.specs.Case.{Case, rows_in}
use Rattle.margin_rows.specs.Margin.{MeetsLoosely}
use Rattle.margin_rows.specs.declared.span.Steps.{Steps}
use Rattle.box_range.specs.Kinds.{step_of, with_span, HasSpan, Side, end_of, without_end}
use Rattle.box_range.specs.declared.kind.Kind.{Kind}

-- some choice of the box with this step of the relay loosely meets the row
pub record CanMeet (case : Case) (box : Box) (kind : Kind) (relay step : ℕ)
    (row : Row) : Type 0 where
  pub settings : Settings
  pub lies : LiesIn box settings
  pub has : step_of kind settings relay ≡ step
  pub meets : MeetsLoosely case settings row

-- for some row no choice of the box with this step of the relay loosely meets the row
pub record IsDroppable (case : Case) (box : Box) (kind : Kind) (relay step : ℕ) : Type 0 where
  pub row : Row
  pub listed : Contains (rows_in case) row
  pub unmet : ¬ (CanMeet case box kind relay step row)

-- an end of a span that is droppable
pub record Drop (case : Case) (box : Box) : Type 0 where
  pub kind : Kind
  pub side : Side
  pub relay : ℕ
  pub span : Steps
  pub stands : HasSpan box kind relay span
  pub steps : span.low < span.past
  pub droppable : IsDroppable case box kind relay (end_of side span)

-- the box after the drop
abbrev pub dropped : (case : Case) (box : Box) → Drop case box → Box
dropped case box drop = with_span drop.kind box drop.relay (without_end drop.side drop.span)

-- drops, perhaps none, lead from one box to the other
pub data Drops (case : Case) : Box → Box → Type 0 where
  none : {box : Box} → Drops case box box
  next : {box later : Box} (drop : Drop case box) → Drops case (dropped case box drop) later
      → Drops case box later

-- the box is tight: no span is empty and no end is droppable
pub record IsTight (case : Case) (box : Box) : Type 0 where
  pub steps : HasNoEmptySpan box
  pub no_drop : ¬ (Drop case box)

-- the box tightens to this one: drops lead to it, and it is tight
pub record TightensTo (case : Case) (box tight : Box) : Type 0 where
  pub led : Drops case box tight
  pub no_more : IsTight case tight

-- the box is emptied: drops lead from it to a box with an empty span
pub record IsEmptied (case : Case) (box : Box) : Type 0 where
  pub end : Box
  pub drops : Drops case box end
  pub empty : HasEmptySpan end

-- the settings loosely meet every row
abbrev pub MeetsAllLoosely : Case → Settings → Type 0
MeetsAllLoosely case settings = All (MeetsLoosely case settings) (rows_in case)
