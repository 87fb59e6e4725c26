-- What the kind of a row says of its two relays: those of an interval row differ, and those of a limit row are one.
use Rattle.std.specs.Prelude.{slice_get, ◌&&◌, ◌==◌, nat_lt, not}
use Rattle.std.specs.List.{Contains, filter}
use Rattle.std.proofs.Common.{◌≡◌, ◌≢◌, ℕ, Bool, true, false, Option, Some, None, ◌++◌, map, ◌⊎◌, inl, inr, refl, rules, subst}
use Rattle.std.proofs.lemmas.List.Elements.{Contains-append_cases}
use Rattle.coord_model.specs.Pairs.{backs, looks_towards, is_exempt, relay_numbers}
use Rattle.coord_model.specs.Rows.{amps_at, fault_numbers, interval_rows, is_primary, least_ms_of, least_rows, limit_row, most_ms_of, most_rows, rows_at, rows_behind, waits}
use Rattle.coord_model.specs.StudyData.{StudyData}
use Rattle.coord_model.specs.declared.study.Relay.{Relay}
use Rattle.coord_model.specs.declared.study.Row.{Row}
use Rattle.coord_model.specs.declared.study.RowKind.{RowKind}
use Rattle.coord_model.specs.declared.study.RowKind.TheVariants.{Interval, Least, Most}
use Rattle.coord_model.specs.declared.study.Term.{Term}
use Rattle.margin_rows.specs.Case.{Case, rows_in, terms_in}
use Rattle.relay_pairs.proofs.Members.{member_filter, member_flat_map, member_map}

same_line : (n : ℕ) → (n == n) ≡ true
same_line n = search rules

-- no relay looks towards itself
looks_away : (study : StudyData) (relay : Option Relay) → looks_towards study relay relay ≡ true → ⊥
looks_away study None e = cc
looks_away study (Some relay) e = let absurdly = rw (same_line relay.line) at e in cc

and_left : (a b : Bool) → (a && b) ≡ true → a ≡ true
and_left true b e = refl
and_left false b e = e

-- so no relay waits for itself
waits_apart : (case : Case) (f p b : ℕ) → waits case.study case.currents f p b ≡ true → b ≢ p
waits_apart case f p b is same =
    let study = case.study in
    let behind = slice_get study.relays b in
    let before = slice_get study.relays p in
    let backing = and_left (backs study b p) (nat_lt 0 (amps_at case.currents f b)) is in
    let towards : looks_towards study behind before ≡ true = and_left (looks_towards study behind before) (not (is_exempt study b p)) backing in
    looks_away study before (rw same at towards)

interval_kind : (case : Case) (row : Row) → Contains (interval_rows case.study case.currents) row → (row.kind ≡ Interval) × (row.backup ≢ row.primary)
interval_kind case row listed =
    let at_fault = member_flat_map (rows_at case.study case.currents) (fault_numbers case.study) row listed in
    let f = at_fault.0 in
    let behind = member_flat_map (rows_behind case.study case.currents f) (filter (is_primary case.study case.currents f) (relay_numbers case.study)) row at_fault.2 in
    let p = behind.0 in
    let mapped = member_map (λ b. record { kind = Interval; fault = f; backup = b; primary = p }) (filter (waits case.study case.currents f p) (relay_numbers case.study)) row behind.2 in
    let kept = member_filter (waits case.study case.currents f p) (relay_numbers case.study) mapped.0 mapped.1 in
    let P : Row → Type 0 = λ r. (r.kind ≡ Interval) × (r.backup ≢ r.primary) in
    subst P mapped.2 (refl, waits_apart case f p mapped.0 kept.1)

limit_kind : (case : Case) (kind : RowKind) (test : Term → Bool) (row : Row) → Contains (map (limit_row kind) (filter test (terms_in case))) row → (row.kind ≡ kind) × (row.backup ≡ row.primary)
limit_kind case kind test row listed =
    let mapped = member_map (limit_row kind) (filter test (terms_in case)) row listed in
    let P : Row → Type 0 = λ r. (r.kind ≡ kind) × (r.backup ≡ r.primary) in
    subst P mapped.2 (refl, refl)

-- an interval row of two relays, or a least row or a most row of one
pub kind_cases : (case : Case) (row : Row) → Contains (rows_in case) row
    → ((row.kind ≡ Interval) × (row.backup ≢ row.primary)) ⊎ (((row.kind ≡ Least) × (row.backup ≡ row.primary)) ⊎ ((row.kind ≡ Most) × (row.backup ≡ row.primary)))
kind_cases case row listed =
    elim (Contains-append_cases (interval_rows case.study case.currents ++ least_rows case.study case.currents) (most_rows case.study case.currents) row listed) [
      | inl early ↦ elim (Contains-append_cases (interval_rows case.study case.currents) (least_rows case.study case.currents) row early) [
        | inl interval ↦ inl (interval_kind case row interval)
        | inr least ↦ inr (inl (limit_kind case Least (λ term. nat_lt 0 (least_ms_of case.study term.relay)) row least))
      ]
      | inr most ↦ inr (inr (limit_kind case Most (λ term. nat_lt 0 (most_ms_of case.study term.relay)) row most))
    ]
