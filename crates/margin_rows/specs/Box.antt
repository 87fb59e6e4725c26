-- A box (ours): for each relay a span of pickup steps and a span of dial steps.
use Rattle.std.specs.Prelude.{◌≡◌, ℕ, suc, ◌<◌, ◌≤◌, ◌↔◌, ◌⊎◌, List, length, slice_get, slice_index, IfSome, IsSomeAnd}
use Rattle.coord_model.specs.Choice.{Settings}
use Rattle.margin_rows.specs.Case.{Case, FitsCase}
use Rattle.margin_rows.specs.FirstBox.{IsFirstStep}
use Rattle.margin_rows.specs.declared.span.Span.{Span}
use Rattle.margin_rows.specs.declared.span.Steps.{Steps}

-- the spans of the relays, in study order
pub record Box : Type 0 where
  pub pickup : List Steps
  pub dial : List Steps

-- the step lies in the span, which ends before `past`
pub record IsIn (span : Steps) (step : ℕ) : Type 0 where
  pub from : span.low ≤ step
  pub before : step < span.past

-- the span has no step
abbrev pub IsEmpty : Steps → Type 0
IsEmpty span = span.past ≤ span.low

-- the span that stands for no step
abbrev pub no_steps : Steps
no_steps = record { low = 0; past = 0 }

-- the span as its first and its last step; of an empty one the first lies above the last
pub record IsShownAs (span : Steps) (shown : Span) : Type 0 where
  pub steps : span.low < span.past → (shown.lo ≡ span.low) × (suc shown.hi ≡ span.past)
  pub none : IsEmpty span → shown.hi < shown.lo

-- there is one step for each span, and it lies in it
pub record AreIn (spans : List Steps) (steps : List ℕ) : Type 0 where
  pub count : length steps ≡ length spans
  pub each : (i : ℕ) → IfSome (slice_get spans i) (λ span. IsIn span (slice_index steps i))

-- no span of the box is empty
pub record HasNoEmptySpan (box : Box) : Type 0 where
  pub pickup : (i : ℕ) → IfSome (slice_get box.pickup i) (λ span. span.low < span.past)
  pub dial : (i : ℕ) → IfSome (slice_get box.dial i) (λ span. span.low < span.past)

-- some span of the box is empty
abbrev pub HasEmptySpan : Box → Type 0
HasEmptySpan box =
    ((i : ℕ) × IsSomeAnd (slice_get box.pickup i) IsEmpty) ⊎ ((i : ℕ) × IsSomeAnd (slice_get box.dial i) IsEmpty)

-- the settings lie in the box
pub record LiesIn (box : Box) (settings : Settings) : Type 0 where
  pub pickup : AreIn box.pickup settings.pickup
  pub dial : AreIn box.dial settings.dial

-- the relay has this dial step
abbrev pub IsDialStep : Case → ℕ → ℕ → Type 0
IsDialStep case relay step = IsSomeAnd (slice_get case.study.relays relay) (λ r. step < r.dial_count)

-- the box has a span of each kind for each relay, with no step outside the first box
pub record FitsBox (case : Case) (box : Box) : Type 0 where
  pub pickups : length box.pickup ≡ length case.study.relays
  pub dials : length box.dial ≡ length case.study.relays
  pub pickup : (i step : ℕ) → IfSome (slice_get box.pickup i) (λ span. IsIn span step → IsFirstStep case i step)
  pub dial : (i step : ℕ) → IfSome (slice_get box.dial i) (λ span. IsIn span step → IsDialStep case i step)

-- the case is within the limits, and the box lies in its first box and has a step in each span
pub record IsFilled (case : Case) (box : Box) : Type 0 where
  pub limits : FitsCase case
  pub fits : FitsBox case box
  pub steps : HasNoEmptySpan box

-- the box is the first: it has each pickup step that is sensible, and each dial step; `no_steps` stands for none
pub record IsFirstBox (case : Case) (box : Box) : Type 0 where
  pub pickups : length box.pickup ≡ length case.study.relays
  pub dials : length box.dial ≡ length case.study.relays
  pub no_pickup : (i : ℕ) → IfSome (slice_get box.pickup i) (λ span. IsEmpty span → span ≡ no_steps)
  pub no_dial : (i : ℕ) → IfSome (slice_get box.dial i) (λ span. IsEmpty span → span ≡ no_steps)
  pub pickup : (i step : ℕ) → IfSome (slice_get box.pickup i) (λ span. IsIn span step ↔ IsFirstStep case i step)
  pub dial : (i step : ℕ) → IfSome (slice_get box.dial i) (λ span. IsIn span step ↔ IsDialStep case i step)
