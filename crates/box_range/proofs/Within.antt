-- Boxes within boxes.
use Rattle.std.proofs.Common.{ℕ, ◌<◌, length, arith, sym, ◌∙◌}
use Rattle.coord_model.specs.Choice.{Settings}
use Rattle.coord_model.specs.declared.study.Row.{Row}
use Rattle.margin_rows.specs.Box.{Box, IsIn, LiesIn}
use Rattle.margin_rows.specs.Case.{Case}
use Rattle.margin_rows.specs.Within.{AreWithin, IsSpanWithin, IsWithin}
use Rattle.margin_rows.specs.declared.span.Steps.{Steps}
use Rattle.margin_rows.proofs.Within.{dial_within, lies_within, pickup_within, within_put}
use Rattle.box_range.specs.Drops.{CanMeet, IsDroppable}
use Rattle.box_range.specs.Kinds.{spans_of, step_of, span_at, with_span}
use Rattle.box_range.specs.declared.kind.Kind.{Kind}
use Rattle.box_range.specs.declared.kind.Kind.TheVariants.{Pickup, Dial}
use Rattle.box_range.proofs.Spans.{lies_at, lies, with_count, with_each}

-- the spans of one kind of a box within another
pub by_kind : {inner outer : Box} → IsWithin inner outer → (kind : Kind) → AreWithin (spans_of kind inner) (spans_of kind outer)
by_kind within Pickup = within.pickup
by_kind within Dial = within.dial

-- a narrower span for one setting of a relay
pub narrowed_within : (kind : Kind) (box : Box) (relay : ℕ) (span : Steps) → relay < length (spans_of kind box) → IsSpanWithin span (span_at kind box relay) → IsWithin (with_span kind box relay span) box
narrowed_within Pickup box relay span below within = pickup_within box relay span below within
narrowed_within Dial box relay span below within = dial_within box relay span below within

-- a box that lies in another narrows with it, where its own span is narrow enough
pub within_narrowed : (kind : Kind) (inner box : Box) (relay : ℕ) (span : Steps) → relay < length (spans_of kind box) → IsWithin inner box → IsSpanWithin (span_at kind inner relay) span → IsWithin inner (with_span kind box relay span)
within_narrowed Pickup inner box relay span below within here = record { pickup = within_put inner.pickup box.pickup relay span below within.pickup here; dial = within.dial }
within_narrowed Dial inner box relay span below within here = record { pickup = within.pickup; dial = within_put inner.dial box.dial relay span below within.dial here }

-- settings of the box lie in the narrower one where their step lies in its span
pub lies_narrowed : (kind : Kind) (box : Box) (relay : ℕ) (span : Steps) (settings : Settings) → relay < length (spans_of kind box) → LiesIn box settings
    → IsIn span (step_of kind settings relay) → LiesIn (with_span kind box relay span) settings
lies_narrowed kind box relay span settings below h is =
    lies (with_span kind box relay span) settings (h.pickup.count ∙ sym (with_count kind Pickup box relay span)) (h.dial.count ∙ sym (with_count kind Dial box relay span))
    (λ k i inside. let old : i < length (spans_of k box) = omega (arith, with_count kind k box relay span) in
    with_each (λ (o : Kind) (r : ℕ) (s : Steps). IsIn s (step_of o settings r)) kind k box relay i span below is (λ apart. lies_at box settings k i h old))

pub meets_within : (case : Case) (inner outer : Box) (kind : Kind) (relay step : ℕ) (row : Row) → IsWithin inner outer
    → CanMeet case inner kind relay step row → CanMeet case outer kind relay step row
meets_within case inner outer kind relay step row within m =
    record { settings = m.settings; lies = lies_within inner outer m.settings within m.lies; has = m.has; meets = m.meets }

-- what is droppable in a box is so in each box within it
pub droppable_within : (case : Case) (inner outer : Box) (kind : Kind) (relay step : ℕ) → IsWithin inner outer
    → IsDroppable case outer kind relay step → IsDroppable case inner kind relay step
droppable_within case inner outer kind relay step within d =
    record { row = d.row; listed = d.listed; unmet = λ m. d.unmet (meets_within case inner outer kind relay step d.row within m) }
