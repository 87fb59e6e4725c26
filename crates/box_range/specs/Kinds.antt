-- The pickup spans and the dial spans of a box, and the ends of a span (ours).
use Rattle.std.specs.Prelude.{◌≡◌, ℕ, suc, ◌-◌, List, Some, slice_get, slice_index}
use Rattle.coord_model.specs.Choice.{Settings}
use Rattle.margin_rows.specs.Box.{Box}
use Rattle.margin_rows.specs.Within.{span_of, with_pickup, with_dial}
use Rattle.margin_rows.specs.declared.span.Steps.{Steps}
use Rattle.box_range.specs.declared.kind.Kind.{Kind}
use Rattle.box_range.specs.declared.kind.Kind.TheVariants.{Pickup, Dial}

-- the spans of the relays for one setting
abbrev pub spans_of : Kind → Box → List Steps
spans_of Pickup box = box.pickup
spans_of Dial box = box.dial

-- the step of a relay for one setting
abbrev pub step_of : Kind → Settings → ℕ → ℕ
step_of Pickup settings relay = slice_index settings.pickup relay
step_of Dial settings relay = slice_index settings.dial relay

-- the box with another span for one setting of a relay
abbrev pub with_span : Kind → Box → ℕ → Steps → Box
with_span Pickup box relay span = with_pickup box relay span
with_span Dial box relay span = with_dial box relay span

-- the span of a relay; past the relays, an empty one
abbrev pub span_at : Kind → Box → ℕ → Steps
span_at kind box relay = span_of (spans_of kind box) relay

-- the relay has this span in the box
abbrev pub HasSpan : Box → Kind → ℕ → Steps → Type 0
HasSpan box kind relay span = slice_get (spans_of kind box) relay ≡ Some span

-- the two ends of a span
pub data Side : Type 0 where
  lowest : Side
  highest : Side

-- the step at an end of a span that has one
abbrev pub end_of : Side → Steps → ℕ
end_of lowest span = span.low
end_of highest span = span.past - 1

-- the span without the step at an end
abbrev pub without_end : Side → Steps → Steps
without_end lowest span = record { low = suc span.low; past = span.past }
without_end highest span = record { low = span.low; past = span.past - 1 }
