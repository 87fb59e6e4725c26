-- Boxes within boxes.
use Rattle.std.specs.Prelude.{slice_get, slice_index}
use Rattle.std.specs.Option.{IfSome}
use Rattle.std.proofs.Common.{◌≡◌, ◌≢◌, ℕ, ◌<◌, inl, inr, List, length, get_or, set, arith, refl, sym, ap, ◌∙◌}
use Rattle.std.proofs.lemmas.Bool.{cases_eq, cases_lt}
use Rattle.std.proofs.lemmas.List.{ext_get_or, length-set, get_or-set_same, get_or-set_other}
use Rattle.std.proofs.lemmas.Option.{slice_get-get_or, slice_get_past}
use Rattle.coord_model.specs.Choice.{Settings}
use Rattle.margin_rows.specs.Box.{Box, IsIn, AreIn, LiesIn, FitsBox, IsDialStep, no_steps}
use Rattle.margin_rows.specs.Case.{Case}
use Rattle.margin_rows.specs.FirstBox.{IsFirstStep}
use Rattle.margin_rows.specs.Within.{AreWithin, IsSpanWithin, IsWithin, span_of, with_pickup, with_dial}
use Rattle.margin_rows.specs.declared.span.Steps.{Steps}
use Rattle.margin_rows.proofs.Placed.{if_some, of_some}

-- a fact of each element, and of each place
pub each_some : {X : Type 0} (xs : List X) (P : ℕ → X → Type 0) (d : X) → ((i : ℕ) → i < length xs → P i (get_or xs i d)) → (i : ℕ) → IfSome (slice_get xs i) (P i)
each_some xs P d h i =
    elim (cases_lt i (length xs)) [
      | inl below ↦ if_some (slice_get xs i) (P i) (get_or xs i d) (slice_get-get_or xs i d below) (h i below)
      | inr past ↦ rw (slice_get_past xs i past) tt
    ]

pub some_each : {X : Type 0} (xs : List X) (P : ℕ → X → Type 0) (d : X) → ((i : ℕ) → IfSome (slice_get xs i) (P i)) → (i : ℕ) → i < length xs → P i (get_or xs i d)
some_each xs P d h i below = of_some (slice_get xs i) (P i) (get_or xs i d) (slice_get-get_or xs i d below) (h i)

-- two spans of the same ends are one
pub same_spans : (s t : Steps) → s.low ≡ t.low → s.past ≡ t.past → s ≡ t
same_spans s t low past = ap (λ (n : ℕ). record { low = n; past = s.past }) low ∙ ap (λ (n : ℕ). record { low = t.low; past = n }) past

-- a fact of each span, with another one for a relay
pub put_each : (P : ℕ → Steps → Type 0) (spans : List Steps) (relay : ℕ) (span : Steps) → relay < length spans → P relay span
    → ((i : ℕ) → i ≢ relay → P i (span_of spans i)) → (i : ℕ) → P i (span_of (set spans relay span) i)
put_each P spans relay span below here there i =
    elim (cases_eq i relay) [
      | inl same ↦ rw (same, get_or-set_same spans relay span no_steps below) here
      | inr apart ↦ rw (get_or-set_other spans relay i span no_steps apart) (there i apart)
    ]

-- spans within spans
pub spans_within_themselves : (spans : List Steps) → AreWithin spans spans
spans_within_themselves spans = record { count = refl; each = λ i. record { low = omega arith; past = omega arith } }

spans_within_spans : (a b c : List Steps) → AreWithin a b → AreWithin b c → AreWithin a c
spans_within_spans a b c p q = record {
  count = p.count ∙ q.count;
  each = λ i. record { low = omega (arith, (p.each i).low, (q.each i).low); past = omega (arith, (p.each i).past, (q.each i).past) };
}

-- a narrower span for a relay
pub put_within : (spans : List Steps) (relay : ℕ) (span : Steps) → relay < length spans → IsSpanWithin span (span_of spans relay) → AreWithin (set spans relay span) spans
put_within spans relay span below within = record {
  count = length-set spans relay span;
  each = put_each (λ i s. IsSpanWithin s (span_of spans i)) spans relay span below within (λ i apart. record { low = omega arith; past = omega arith });
}

-- spans within others stay so where a span of the others narrows and theirs is narrow enough
pub within_put : (inner spans : List Steps) (relay : ℕ) (span : Steps) → relay < length spans → AreWithin inner spans → IsSpanWithin (span_of inner relay) span → AreWithin inner (set spans relay span)
within_put inner spans relay span below within here = record {
  count = within.count ∙ sym (length-set spans relay span);
  each = put_each (λ i s. IsSpanWithin (span_of inner i) s) spans relay span below here (λ i apart. within.each i);
}

-- steps in spans within others lie in the others
pub in_within : (inner outer : List Steps) (steps : List ℕ) → AreWithin inner outer → AreIn inner steps → AreIn outer steps
in_within inner outer steps within inside = record {
  count = inside.count ∙ within.count;
  each = each_some outer (λ i span. IsIn span (slice_index steps i)) no_steps (λ i below.
      let is = some_each inner (λ k span. IsIn span (slice_index steps k)) no_steps inside.each i (omega (arith, below, within.count)) in
      record { from = omega (arith, (within.each i).low, is.from); before = omega (arith, (within.each i).past, is.before) });
}

-- what holds of each step of spans holds of those of spans within them
steps_within : (P : ℕ → ℕ → Type 0) (inner outer : List Steps) → AreWithin inner outer → ((i step : ℕ) → IfSome (slice_get outer i) (λ span. IsIn span step → P i step))
    → (i step : ℕ) → IfSome (slice_get inner i) (λ span. IsIn span step → P i step)
steps_within P inner outer within each i step = each_some inner (λ k span. IsIn span step → P k step) no_steps (λ k below is.
    some_each outer (λ o span. IsIn span step → P o step) no_steps (λ o. each o step) k (omega (arith, below, within.count))
    (record { from = omega (arith, (within.each k).low, is.from); before = omega (arith, (within.each k).past, is.before) })) i

spans_within_both : (a b : List Steps) → AreWithin a b → AreWithin b a → a ≡ b
spans_within_both a b p q = ext_get_or no_steps a b p.count (λ i below. same_spans (span_of a i) (span_of b i)
    (omega (arith, (p.each i).low, (q.each i).low)) (omega (arith, (p.each i).past, (q.each i).past)))

pub within_itself : (box : Box) → IsWithin box box
within_itself box = record { pickup = spans_within_themselves box.pickup; dial = spans_within_themselves box.dial }

pub within_within : (a b c : Box) → IsWithin a b → IsWithin b c → IsWithin a c
within_within a b c p q = record { pickup = spans_within_spans a.pickup b.pickup c.pickup p.pickup q.pickup; dial = spans_within_spans a.dial b.dial c.dial p.dial q.dial }

-- two boxes within each other are one
pub within_both : (a b : Box) → IsWithin a b → IsWithin b a → a ≡ b
within_both a b p q =
    ap (λ (spans : List Steps). record { pickup = spans; dial = a.dial }) (spans_within_both a.pickup b.pickup p.pickup q.pickup)
    ∙ ap (λ (spans : List Steps). record { pickup = b.pickup; dial = spans }) (spans_within_both a.dial b.dial p.dial q.dial)

-- a box with a narrower span for a relay lies within it
pub pickup_within : (box : Box) (relay : ℕ) (span : Steps) → relay < length box.pickup → IsSpanWithin span (span_of box.pickup relay) → IsWithin (with_pickup box relay span) box
pickup_within box relay span below within = record { pickup = put_within box.pickup relay span below within; dial = spans_within_themselves box.dial }

pub dial_within : (box : Box) (relay : ℕ) (span : Steps) → relay < length box.dial → IsSpanWithin span (span_of box.dial relay) → IsWithin (with_dial box relay span) box
dial_within box relay span below within = record { pickup = spans_within_themselves box.pickup; dial = put_within box.dial relay span below within }

-- settings of a box lie in each box that it is within
pub lies_within : (inner outer : Box) (settings : Settings) → IsWithin inner outer → LiesIn inner settings → LiesIn outer settings
lies_within inner outer settings within lies = record {
  pickup = in_within inner.pickup outer.pickup settings.pickup within.pickup lies.pickup;
  dial = in_within inner.dial outer.dial settings.dial within.dial lies.dial;
}

-- a box within one that fits a case fits it
pub fits_within : (case : Case) (inner outer : Box) → IsWithin inner outer → FitsBox case outer → FitsBox case inner
fits_within case inner outer within fits = record {
  pickups = within.pickup.count ∙ fits.pickups;
  dials = within.dial.count ∙ fits.dials;
  pickup = steps_within (IsFirstStep case) inner.pickup outer.pickup within.pickup fits.pickup;
  dial = steps_within (IsDialStep case) inner.dial outer.dial within.dial fits.dial;
}
