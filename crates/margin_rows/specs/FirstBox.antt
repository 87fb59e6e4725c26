-- The first box (ours): all dial steps of each relay, and the pickup steps that sense each current that counts and
-- clear the load.
use Rattle.std.specs.Prelude.{ℕ, ◌<◌, ◌≤◌, Option, Some, None, slice_get, slice_index, IfSome, IsSomeAnd}
use Rattle.coord_model.specs.Allowed.{AreOnSteps, IsSensible}
use Rattle.coord_model.specs.Choice.{Settings}
use Rattle.margin_rows.specs.Case.{Case}

-- the first box has this pickup step of the relay: it is below the count and sensible
abbrev pub IsFirstStep : Case → ℕ → ℕ → Type 0
IsFirstStep case relay step =
    IsSomeAnd (slice_get case.study.relays relay) (λ r. (step < r.plug_count) × IsSensible case.study case.currents relay r step)

-- the first box has no pickup step of the relay
abbrev pub HasNoStep : Case → ℕ → Type 0
HasNoStep case relay = (step : ℕ) → ¬ (IsFirstStep case relay step)

-- the first box has the pickup steps of the relay from low to high, and no other
pub record IsFirstSpan (case : Case) (relay low high : ℕ) : Type 0 where
  pub ordered : low ≤ high
  pub inside : (step : ℕ) → low ≤ step → step ≤ high → IsFirstStep case relay step
  pub no_other : (step : ℕ) → IsFirstStep case relay step → (low ≤ step) × (step ≤ high)

-- the span is that of the relay in the first box
abbrev pub IsFirstSpanOf : Case → ℕ → Option (ℕ × ℕ) → Type 0
IsFirstSpanOf case relay None = HasNoStep case relay
IsFirstSpanOf case relay (Some span) = IsFirstSpan case relay span.0 span.1

-- the settings lie in the first box
pub record IsInFirstBox (case : Case) (settings : Settings) : Type 0 where
  pub on_steps : AreOnSteps case.study settings
  pub sensible : (i : ℕ) → IfSome (slice_get case.study.relays i) (λ relay. IsSensible case.study case.currents i relay (slice_index settings.pickup i))
