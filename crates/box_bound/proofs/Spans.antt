-- The spans of a filled box as the code reads them.
use Rattle.std.specs.Prelude.{slice_get}
use Rattle.std.specs.Option.{IsSomeAnd}
use Rattle.std.proofs.Common.{◌≡◌, ℕ, suc, ◌<◌, arith, sym, subst}
use Rattle.std.proofs.lemmas.Option.{get_or_from_slice_get}
use Rattle.margin_rows.specs.Box.{Box, no_steps, IsIn, IsShownAs, IsDialStep, IsFilled}
use Rattle.margin_rows.specs.Case.{Case}
use Rattle.margin_rows.specs.FirstBox.{IsFirstStep}
use Rattle.margin_rows.specs.declared.span.Span.{Span}
use Rattle.margin_rows.specs.declared.span.Steps.{Steps}
use Rattle.margin_rows.proofs.Placed.{of_some}
use Rattle.margin_rows.proofs.Places.{some_and}
use Rattle.box_bound.specs.RelayParts.{dials_of, pickups_of}

-- the span has a step, is shown by its first and its last one, and each of its steps is a step of the relay
pub record IsSpanRead (span : Steps) (shown : Span) (IsStep : ℕ → Type 0) : Type 0 where
  pub low : shown.lo ≡ span.low
  pub past : suc shown.hi ≡ span.past
  pub some : span.low < span.past
  pub steps : (step : ℕ) → IsIn span step → IsStep step

read : (span : Steps) (shown : Span) (IsStep : ℕ → Type 0) → IsShownAs span shown → span.low < span.past → ((step : ℕ) → IsIn span step → IsStep step) → IsSpanRead span shown IsStep
read span shown IsStep is some steps = record { low = (is.steps some).0; past = (is.steps some).1; some = some; steps = steps }

pub pickups_read : (case : Case) (box : Box) (i : ℕ) (shown : Span) → IsFilled case box → IsSomeAnd (slice_get box.pickup i) (λ span. IsShownAs span shown)
    → IsSpanRead (pickups_of box i) shown (IsFirstStep case i)
pickups_read case box i shown filled is =
    let there = some_and (slice_get box.pickup i) (λ span. IsShownAs span shown) is in
    let P : Steps → Type 0 = λ span. IsSpanRead span shown (IsFirstStep case i) in
    subst P (sym (get_or_from_slice_get box.pickup i there.0 no_steps there.1))
    (read there.0 shown (IsFirstStep case i) there.2 (of_some (slice_get box.pickup i) (λ span. span.low < span.past) there.0 there.1 (filled.steps.pickup i))
    (λ step. of_some (slice_get box.pickup i) (λ span. IsIn span step → IsFirstStep case i step) there.0 there.1 (filled.fits.pickup i step)))

pub dials_read : (case : Case) (box : Box) (i : ℕ) (shown : Span) → IsFilled case box → IsSomeAnd (slice_get box.dial i) (λ span. IsShownAs span shown)
    → IsSpanRead (dials_of box i) shown (IsDialStep case i)
dials_read case box i shown filled is =
    let there = some_and (slice_get box.dial i) (λ span. IsShownAs span shown) is in
    let P : Steps → Type 0 = λ span. IsSpanRead span shown (IsDialStep case i) in
    subst P (sym (get_or_from_slice_get box.dial i there.0 no_steps there.1))
    (read there.0 shown (IsDialStep case i) there.2 (of_some (slice_get box.dial i) (λ span. span.low < span.past) there.0 there.1 (filled.steps.dial i))
    (λ step. of_some (slice_get box.dial i) (λ span. IsIn span step → IsDialStep case i step) there.0 there.1 (filled.fits.dial i step)))

-- the first step shown, and the last, are steps of the relay
pub low_is_step : {span : Steps} {shown : Span} {IsStep : ℕ → Type 0} → IsSpanRead span shown IsStep → IsStep shown.lo
low_is_step is = is.steps _ (record { from = omega (arith, is.low); before = omega (arith, is.low, is.some) })

pub high_is_step : {span : Steps} {shown : Span} {IsStep : ℕ → Type 0} → IsSpanRead span shown IsStep → IsStep shown.hi
high_is_step is = is.steps _ (record { from = omega (arith, is.past, is.some); before = omega (arith, is.past) })
