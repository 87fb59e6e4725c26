-- Boxes with another span for one relay, and boxes within boxes (ours).
use Rattle.std.specs.Prelude.{◌≡◌, ℕ, ◌≤◌, List, length, slice_index_or}
use Rattle.std.proofs.Common.{set}
use Rattle.margin_rows.specs.Box.{Box, no_steps}
use Rattle.margin_rows.specs.declared.span.Steps.{Steps}

-- the box with another span of pickup steps, or of dial steps, for one relay
abbrev pub with_pickup : Box → ℕ → Steps → Box
with_pickup box relay span = record { pickup = set box.pickup relay span; dial = box.dial }

abbrev pub with_dial : Box → ℕ → Steps → Box
with_dial box relay span = record { pickup = box.pickup; dial = set box.dial relay span }

-- the span of relay i; past the relays, one without a step
abbrev pub span_of : List Steps → ℕ → Steps
span_of spans i = slice_index_or spans i no_steps

-- the span begins no earlier than the other, and ends no later
pub record IsSpanWithin (inner outer : Steps) : Type 0 where
  pub low : outer.low ≤ inner.low
  pub past : inner.past ≤ outer.past

-- there are as many spans as others, each within the other of its relay
pub record AreWithin (inner outer : List Steps) : Type 0 where
  pub count : length inner ≡ length outer
  pub each : (i : ℕ) → IsSpanWithin (span_of inner i) (span_of outer i)

-- each span of the one box lies within that of the other
pub record IsWithin (inner outer : Box) : Type 0 where
  pub pickup : AreWithin inner.pickup outer.pickup
  pub dial : AreWithin inner.dial outer.dial
