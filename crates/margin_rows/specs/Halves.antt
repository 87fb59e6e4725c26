-- The two halves of a box, cut between a pickup step of a relay and the next one (ours).
use Rattle.std.specs.Prelude.{◌≡◌, ℕ, ◌+◌, ◌<◌, ◌≤◌, ◌⊎◌, slice_get, IsSomeAnd}
use Rattle.coord_model.specs.Choice.{Settings}
use Rattle.margin_rows.specs.Box.{Box, FitsBox, HasNoEmptySpan, LiesIn}
use Rattle.margin_rows.specs.Case.{Case}
use Rattle.margin_rows.specs.Within.{IsWithin, with_pickup}
use Rattle.margin_rows.specs.declared.span.Steps.{Steps}

-- the span has the step and the next one, so that it can be cut between them
pub record HasNext (span : Steps) (step : ℕ) : Type 0 where
  pub from : span.low ≤ step
  pub next : step + 1 < span.past

-- the box can be split at a pickup step of a relay: its span has the step and the next one
abbrev pub CanSplit : Box → ℕ → ℕ → Type 0
CanSplit box relay step = IsSomeAnd (slice_get box.pickup relay) (λ span. HasNext span step)

-- the span up to a step, and the span above it
abbrev pub up_to : Steps → ℕ → Steps
up_to span step = record { low = span.low; past = step + 1 }

abbrev pub above : Steps → ℕ → Steps
above span step = record { low = step + 1; past = span.past }

-- the boxes are the halves: one has the relay's pickup steps up to this one, the other those above it
pub record AreHalves (box : Box) (relay step : ℕ) (lower upper : Box) : Type 0 where
  pub low : IsSomeAnd (slice_get box.pickup relay) (λ span. lower ≡ with_pickup box relay (up_to span step))
  pub high : IsSomeAnd (slice_get box.pickup relay) (λ span. upper ≡ with_pickup box relay (above span step))

-- the boxes share the settings of a box out between them: each lie in exactly one of the two, and there are no others
pub record ShareOut (box lower upper : Box) : Type 0 where
  pub either : (settings : Settings) → LiesIn box settings → LiesIn lower settings ⊎ LiesIn upper settings
  pub not_both : (settings : Settings) → LiesIn lower settings → ¬ (LiesIn upper settings)
  pub low_within : (settings : Settings) → LiesIn lower settings → LiesIn box settings
  pub high_within : (settings : Settings) → LiesIn upper settings → LiesIn box settings

-- the box is a half of another: within it, with a step in each span if the other has one, and fit for each case that the other fits
pub record IsHalf (half box : Box) : Type 0 where
  pub within : IsWithin half box
  pub steps : HasNoEmptySpan box → HasNoEmptySpan half
  pub fits : (case : Case) → FitsBox case box → FitsBox case half
