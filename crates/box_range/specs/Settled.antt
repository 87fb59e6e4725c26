-- A row of a box whose four ends are of use, and boxes from which a row's useless ends are cut (ours).
use Rattle.std.specs.Prelude.{◌≡◌, ℕ, ◌+◌, ◌-◌, ◌≢◌, sum_by}
use Rattle.coord_model.specs.Choice.{Settings}
use Rattle.coord_model.specs.declared.study.Row.{Row}
use Rattle.margin_rows.specs.Box.{Box, LiesIn}
use Rattle.margin_rows.specs.Case.{Case}
use Rattle.margin_rows.specs.Margin.{MeetsLoosely}
use Rattle.margin_rows.specs.declared.span.Steps.{Steps}
use Rattle.box_range.specs.Drops.{CanMeet, Drops}
use Rattle.box_range.specs.Kinds.{span_at}
use Rattle.box_range.specs.declared.kind.Kind.{Kind}

-- some choice of the box with the backup's lowest step meets the row
abbrev pub MeetsAtLow : Case → Box → Row → Kind → Type 0
MeetsAtLow case box row kind =
    CanMeet case box kind row.backup (span_at kind box row.backup).low row

-- some choice of the box with the primary's highest step meets the row
abbrev pub MeetsAtHigh : Case → Box → Row → Kind → Type 0
MeetsAtHigh case box row kind =
    CanMeet case box kind row.primary ((span_at kind box row.primary).past - 1) row

-- the row can be met with each of the four ends that it can make useless alone
pub record IsSettled (case : Case) (box : Box) (row : Row) : Type 0 where
  pub low : (kind : Kind) → MeetsAtLow case box row kind
  pub high : (kind : Kind) → MeetsAtHigh case box row kind

-- drops lead to the later box, and no choice that meets the row is lost
pub record IsCut (case : Case) (row : Row) (box later : Box) : Type 0 where
  pub drops : Drops case box later
  pub kept : (settings : Settings) → LiesIn box settings → MeetsLoosely case settings row
      → LiesIn later settings

-- the boxes have the same spans but for one relay
abbrev pub DiffersAt : ℕ → Box → Box → Type 0
DiffersAt changed box later =
    (kind : Kind) (relay : ℕ) → relay ≢ changed → span_at kind later relay ≡ span_at kind box relay

-- the number of steps in a span
abbrev pub width : Steps → ℕ
width span = span.past - span.low

-- the number of steps in all spans
abbrev pub size : Box → ℕ
size box = sum_by width box.pickup + sum_by width box.dial
