-- How far up a relay's pickup steps sense: the higher the pickup, the less it senses.
use Rattle.std.specs.Prelude.{◌≡◌, ℕ, ◌<◌, ◌≤◌, suc, List, Option, Some, None, length, slice_get, slice_index, IsSomeAnd}
use Rattle.std.specs.Option.{option_map_or}
use Rattle.coord_model.specs.Allowed.{Senses, ClearsLoad}
use Rattle.coord_model.specs.Rows.{amps_at}
use Rattle.margin_rows.specs.Case.{Case}

-- the number of pickup steps of a relay
abbrev pub steps_of : Case → ℕ → ℕ
steps_of case i = option_map_or (λ relay. relay.plug_count) (slice_get case.study.relays i) 0

-- the relay senses its current at the fault at this pickup step
abbrev pub SensesAt : Case → ℕ → ℕ → ℕ → Type 0
SensesAt case f i step = IsSomeAnd (slice_get case.study.relays i) (λ relay. Senses case.study relay step (amps_at case.currents f i))

-- it is a step of the relay's and senses its current at the fault
abbrev pub IsTimed : Case → ℕ → ℕ → ℕ → Type 0
IsTimed case f i step = (step < steps_of case i) × SensesAt case f i step

-- the relay's pickup step clears the load
abbrev pub ClearsAt : Case → ℕ → ℕ → Type 0
ClearsAt case i step = IsSomeAnd (slice_get case.study.relays i) (λ relay. ClearsLoad case.study relay step)

-- of the relay's first `past` steps the first `cut` sense its current at the fault, and no others
pub record IsCut (case : Case) (f i past cut : ℕ) : Type 0 where
  pub within : cut ≤ past
  pub senses : (step : ℕ) → step < cut → SensesAt case f i step
  pub blind : (step : ℕ) → cut ≤ step → step < past → ¬ (SensesAt case f i step)

-- of the relay's steps the first `past`, and no others, sense its current at each fault where it is used
pub record ReachesTo (case : Case) (used : ℕ → Type 0) (i past : ℕ) : Type 0 where
  pub within : past ≤ steps_of case i
  pub senses : (f step : ℕ) → used f → step < past → SensesAt case f i step
  pub blind : (step : ℕ) → step < steps_of case i → ((f : ℕ) → used f → SensesAt case f i step) → step < past

-- the list says for each relay how far it reaches
pub record AreReaches (case : Case) (used : ℕ → ℕ → Type 0) (reach : List ℕ) : Type 0 where
  pub count : length reach ≡ length case.study.relays
  pub each : (i : ℕ) → i < length case.study.relays → ReachesTo case (λ f. used f i) i (slice_index reach i)

-- the steps below `past` that clear the load are those of the span
abbrev pub IsClearSpan : Case → ℕ → ℕ → Option (ℕ × ℕ) → Type 0
IsClearSpan case i past None = (step : ℕ) → step < past → ¬ (ClearsAt case i step)
IsClearSpan case i past (Some span) =
    ((step : ℕ) → step < span.0 → ¬ (ClearsAt case i step)) × ClearsAt case i span.0 × (span.0 < past) × (suc span.1 ≡ past)
