-- Settings of the first box: their times are enclosed, and what follows for allowed settings.
use Rattle.std.specs.Prelude.{slice_get, slice_index, pos, ◌≤ℤ◌, ◌+ℤ◌}
use Rattle.std.proofs.Common.{◌≡◌, ℕ, ◌<◌, List, [], ◌∷◌, zero, suc, length, Some, None, Option, arith, refl, inl, get_or}
use Rattle.std.proofs.lemmas.List.Elements.{Contains-get_or}
use Rattle.std.specs.List.{All, Contains}
use Rattle.std.specs.Option.{IsSomeAnd, IfSome}
use Rattle.coord_model.specs.Allowed.{IsAllowed, IsSensible, IsUsed, Keeps, IsOnSteps}
use Rattle.coord_model.specs.Choice.{Settings}
use Rattle.coord_model.specs.declared.study.Relay.{Relay}
use Rattle.coord_model.specs.declared.study.Row.{Row}
use Rattle.margin_rows.specs.Case.{Case, FitsCase, rows_in, terms_in}
use Rattle.margin_rows.specs.FirstBox.{IsFirstStep, IsInFirstBox}
use Rattle.margin_rows.specs.Margin.{loose_margin, strict_margin, row_width, MeetsLoosely, MeetsStrictly}
use Rattle.margin_rows.proofs.Costs.{AreSet}
use Rattle.margin_rows.proofs.Kept.{strict_keeps, kept_meets, margins_near}
use Rattle.margin_rows.proofs.Listed.{term_facts, row_facts, backup_used, primary_used}
use Rattle.margin_rows.proofs.Places.{some_and}
use Rattle.margin_rows.proofs.Timed.{IsTimedAt, IsEnclosed, enclosed}

-- a step of the first box senses each current that counts
pub first_is_timed : (case : Case) (f i step : ℕ) → IsUsed case.study case.currents f i → IsFirstStep case i step → IsTimedAt case f i step
first_is_timed case f i step used first =
    let found = some_and (slice_get case.study.relays i) (λ r. (step < r.plug_count) × IsSensible case.study case.currents i r step) first in
    record { relay = found.0; found = found.1; below = found.2.0; senses = found.2.1.senses f used }

-- the pickup of a relay is a step of the first box
pub pickup_first : (case : Case) (settings : Settings) (i : ℕ) → IsInFirstBox case settings → i < length case.study.relays → IsFirstStep case i (slice_index settings.pickup i)
pickup_first case settings i box below =
    pick (slice_get case.study.relays i) (box.on_steps.steps i) (box.sensible i) (λ e. within case.study.relays i below e)
  where
    within : (xs : List Relay) (i : ℕ) → i < length xs → slice_get xs i ≡ None → ⊥
    within [] i below none = omega (arith, below)
    within (x ∷ xs) zero below none = cc
    within (x ∷ xs) (suc i) below none = within xs i (omega (arith, below)) none

    pick : (o : Option Relay) → IfSome o (λ relay. IsOnSteps relay (slice_index settings.pickup i) (slice_index settings.dial i))
        → IfSome o (λ relay. IsSensible case.study case.currents i relay (slice_index settings.pickup i)) → (o ≡ None → ⊥)
        → IsSomeAnd o (λ r. (slice_index settings.pickup i < r.plug_count) × IsSensible case.study case.currents i r (slice_index settings.pickup i))
    pick None steps sensible some = some refl
    pick (Some relay) steps sensible some = (steps.pickup_step, sensible)

-- the time of a relay with its settings is enclosed
pub set_enclosed : (case : Case) (settings : Settings) (f i : ℕ) → FitsCase case → IsInFirstBox case settings → IsUsed case.study case.currents f i → i < length case.study.relays
    → IsEnclosed case f i (slice_index settings.pickup i)
set_enclosed case settings f i fits box used below =
    enclosed case f i (slice_index settings.pickup i) fits.study fits.currents
    (first_is_timed case f i (slice_index settings.pickup i) used (pickup_first case settings i box below))

pub set_terms : (case : Case) (settings : Settings) → FitsCase case → IsInFirstBox case settings → AreSet case settings
set_terms case settings fits box k d below =
    let listed = Contains-get_or (terms_in case) k d below in
    set_enclosed case settings _ _ fits box (inl listed) (term_facts case (get_or (terms_in case) k d) listed).relay

pub set_backup : (case : Case) (settings : Settings) (row : Row) → FitsCase case → IsInFirstBox case settings → Contains (rows_in case) row
    → IsEnclosed case row.fault row.backup (slice_index settings.pickup row.backup)
set_backup case settings row fits box listed =
    set_enclosed case settings row.fault row.backup fits box (backup_used case row listed) (row_facts case row listed).backup

pub set_primary : (case : Case) (settings : Settings) (row : Row) → FitsCase case → IsInFirstBox case settings → Contains (rows_in case) row
    → IsEnclosed case row.fault row.primary (slice_index settings.pickup row.primary)
set_primary case settings row fits box listed =
    set_enclosed case settings row.fault row.primary fits box (primary_used case row listed) (row_facts case row listed).primary

-- a row that is strictly met is kept, and one that is kept is loosely met
pub row_keeps : (case : Case) (settings : Settings) (row : Row) → FitsCase case → IsInFirstBox case settings → Contains (rows_in case) row
    → MeetsStrictly case settings row → Keeps case.study case.currents settings row
row_keeps case settings row fits box listed met = strict_keeps case settings row (set_backup case settings row fits box listed) (set_primary case settings row fits box listed) (row_facts case row listed).one met

pub row_meets : (case : Case) (settings : Settings) (row : Row) → FitsCase case → IsInFirstBox case settings → Contains (rows_in case) row
    → Keeps case.study case.currents settings row → MeetsLoosely case settings row
row_meets case settings row fits box listed keeps = kept_meets case settings row (set_backup case settings row fits box listed) (set_primary case settings row fits box listed) (row_facts case row listed).one keeps

-- the loose margin of a row lies near the strict one
pub row_near : (case : Case) (settings : Settings) (row : Row) → FitsCase case → IsInFirstBox case settings → Contains (rows_in case) row
    → loose_margin case settings row ≤ℤ (strict_margin case settings row +ℤ pos (row_width case settings row))
row_near case settings row fits box listed = margins_near case settings row (set_backup case settings row fits box listed) (set_primary case settings row fits box listed)

-- allowed settings lie in the first box
pub allowed_in_first_box : (case : Case) (settings : Settings) → IsAllowed case.study case.currents settings → IsInFirstBox case settings
allowed_in_first_box case settings allowed = record { on_steps = allowed.on_steps; sensible = allowed.sensible }

-- allowed settings loosely meet every row
pub allowed_meets : (case : Case) (settings : Settings) → FitsCase case → IsAllowed case.study case.currents settings → All (MeetsLoosely case settings) (rows_in case)
allowed_meets case settings fits allowed k d below =
    row_meets case settings (get_or (rows_in case) k d) fits (allowed_in_first_box case settings allowed) (Contains-get_or (rows_in case) k d below) (allowed.keeps k d below)

-- settings of the first box that strictly meet every row are allowed
pub strict_allowed : (case : Case) (settings : Settings) → FitsCase case → IsInFirstBox case settings → All (MeetsStrictly case settings) (rows_in case) → IsAllowed case.study case.currents settings
strict_allowed case settings fits box met =
    record {
      on_steps = box.on_steps;
      sensible = box.sensible;
      keeps = λ k d below. row_keeps case settings (get_or (rows_in case) k d) fits box (Contains-get_or (rows_in case) k d below) (met k d below);
    }
