-- What the lists of terms and rows keep: each stands for what is asked, in order and once.
use Rattle.std.specs.Prelude.{◌≢◌, ◌↔◌, ◌&&◌, nat_lt, slice_get, IsTrue}
use Rattle.std.proofs.Common.{◌≡◌, ℕ, ◌<◌, Bool, true, false, List, ◌++◌, length, map, Some, None, Option, arith, refl, sym, ap, ◌∙◌, inl, inr, subst}
use Rattle.std.specs.List.{AllPairs, Contains, filter}
use Rattle.std.proofs.lemmas.Bool.{and_from, ltb-true, lt-ltb}
use Rattle.std.proofs.lemmas.List.Elements.{Contains-append_cases, Contains-append_left, Contains-append_right}
use Rattle.std.proofs.lemmas.List.Kept.{AllPairs-filter}
use Rattle.std.proofs.lemmas.Option.{slice_get_within}
use Rattle.coord_model.specs.Pairs.{backs, relay_numbers}
use Rattle.coord_model.specs.Rows.{amps_at, fault_numbers, interval_rows, is_primary, least_ms_of, least_rows, limit_row, most_ms_of, most_rows, rows_at, rows_behind, stands_on, terms_at, waits}
use Rattle.coord_model.specs.declared.study.Fault.{Fault}
use Rattle.coord_model.specs.declared.study.Relay.{Relay}
use Rattle.coord_model.specs.declared.study.Row.{Row}
use Rattle.coord_model.specs.declared.study.RowKind.{RowKind}
use Rattle.coord_model.specs.declared.study.RowKind.TheVariants.{Interval, Least, Most}
use Rattle.coord_model.specs.declared.study.Term.{Term}
use Rattle.margin_rows.specs.Case.{Case, rows_in, terms_in}
use Rattle.margin_rows.specs.Order.{AsksInterval, AsksLimit, IsAsked, TermBefore, kind_place, RowBefore}
use Rattle.margin_rows.proofs.Listed.{interval_listed, is_term, term_facts}
use Rattle.relay_pairs.proofs.Members.{member_map, map_member, member_filter, filter_member, member_flat_map, flat_map_member, number_member}
use Rattle.relay_pairs.proofs.PairLaws.{backing_relays, numbers_ascend, pairs_joined, pairs_mapped, pieces_joined}

-- both of two tests pass
both_pass : (x y : Bool) → (x && y) ≡ true → (x ≡ true) × (y ≡ true)
both_pass true true holds = (refl, refl)
both_pass true false holds = absurd cc
both_pass false y holds = absurd cc

-- a fault and a relay that clears it first are there
primary_there : (case : Case) (f p : ℕ) → is_primary case.study case.currents f p ≡ true → (f < length case.study.faults) × (p < length case.study.relays)
primary_there case f p holds =
    go (slice_get case.study.faults f) (slice_get case.study.relays p) refl refl (both_pass (stands_on (slice_get case.study.faults f) (slice_get case.study.relays p)) _ holds).0
  where
    go : (x : Option Fault) (y : Option Relay) → slice_get case.study.faults f ≡ x → slice_get case.study.relays p ≡ y → stands_on x y ≡ true → (f < length case.study.faults) × (p < length case.study.relays)
    go None y found other holds = absurd cc
    go (Some x) None found other holds = absurd cc
    go (Some x) (Some y) found other holds = (slice_get_within case.study.faults f x found, slice_get_within case.study.relays p y other)

-- ---- a term is listed exactly if its relay clears its fault first

pub terms_listed : (case : Case) (term : Term) → Contains (terms_in case) term ↔ IsTrue (is_primary case.study case.currents term.fault term.relay)
terms_listed case term = (
  λ listed. (term_facts case term listed).primary,
  λ primary. let there = primary_there case term.fault term.relay primary in is_term case term.fault term.relay there.0 there.1 primary,
)

-- ---- a row is listed exactly if it is asked

-- a row behind a primary at a fault
record IsBehind (case : Case) (f p : ℕ) (row : Row) : Type 0 where
  kind : row.kind ≡ Interval
  fault : row.fault ≡ f
  primary : row.primary ≡ p
  waits : waits case.study case.currents f p row.backup ≡ true

is_behind : (case : Case) (f p : ℕ) (row : Row) → Contains (rows_behind case.study case.currents f p) row → IsBehind case f p row
is_behind case f p row listed =
    let mapped = member_map (λ b. record { kind = Interval; fault = f; backup = b; primary = p }) (filter (waits case.study case.currents f p) (relay_numbers case.study)) row listed in
    let kept = member_filter (waits case.study case.currents f p) (relay_numbers case.study) mapped.0 mapped.1 in
    let P : Row → Type 0 = λ r. IsBehind case f p r in
    subst P mapped.2 (record { kind = refl; fault = refl; primary = refl; waits = kept.1 })

-- an interval row of a fault
record IsAt (case : Case) (f : ℕ) (row : Row) : Type 0 where
  kind : row.kind ≡ Interval
  fault : row.fault ≡ f
  primary : is_primary case.study case.currents f row.primary ≡ true
  waits : waits case.study case.currents f row.primary row.backup ≡ true

is_at : (case : Case) (f : ℕ) (row : Row) → Contains (rows_at case.study case.currents f) row → IsAt case f row
is_at case f row listed =
    let piece = member_flat_map (rows_behind case.study case.currents f) (filter (is_primary case.study case.currents f) (relay_numbers case.study)) row listed in
    let clears = member_filter (is_primary case.study case.currents f) (relay_numbers case.study) piece.0 piece.1 in
    let behind = is_behind case f piece.0 row piece.2 in
    record { kind = behind.kind; fault = behind.fault; primary = rw behind.primary clears.1; waits = rw behind.primary behind.waits }

interval_asked : (case : Case) (row : Row) → Contains (interval_rows case.study case.currents) row → (row.kind ≡ Interval) × AsksInterval case row
interval_asked case row listed =
    let piece = member_flat_map (rows_at case.study case.currents) (fault_numbers case.study) row listed in
    let at = is_at case piece.0 row piece.2 in
    let parts = both_pass (backs case.study row.backup row.primary) (nat_lt 0 (amps_at case.currents piece.0 row.backup)) at.waits in
    let current : 0 < amps_at case.currents piece.0 row.backup = ltb-true 0 (amps_at case.currents piece.0 row.backup) parts.1 in
    (at.kind, record { primary = rw at.fault at.primary; backs = parts.0; current = rw at.fault current })

asked_interval : (case : Case) (f b p : ℕ) → (let row : Row = record { kind = Interval; fault = f; backup = b; primary = p } in AsksInterval case row) → Contains (interval_rows case.study case.currents) (record { kind = Interval; fault = f; backup = b; primary = p })
asked_interval case f b p asked =
    let there = primary_there case f p asked.primary in
    let relays = backing_relays case.study b p asked.backs in
    flat_map_member (rows_at case.study case.currents) (fault_numbers case.study) f _ (number_member (length case.study.faults) f there.0)
    (flat_map_member (rows_behind case.study case.currents f) (filter (is_primary case.study case.currents f) (relay_numbers case.study)) p _
    (filter_member (is_primary case.study case.currents f) (relay_numbers case.study) p (number_member (length case.study.relays) p there.1) asked.primary)
    (map_member (λ (r : ℕ). record { kind = Interval; fault = f; backup = r; primary = p }) (filter (waits case.study case.currents f p) (relay_numbers case.study)) b
    (filter_member (waits case.study case.currents f p) (relay_numbers case.study) b (number_member (length case.study.relays) b relays.0)
    (and_from (backs case.study b p) (nat_lt 0 (amps_at case.currents f b)) asked.backs (lt-ltb 0 (amps_at case.currents f b) asked.current)))))

-- the rows of a limit, which is that of each relay
module _ (case : Case) (kind : RowKind) (limit : ℕ → ℕ) where
  abbrev limit_rows : List Row
  limit_rows = map (limit_row kind) (filter (λ (term : Term). nat_lt 0 (limit term.relay)) (terms_in case))

  limit_asked : (row : Row) → Contains limit_rows row → (row.kind ≡ kind) × AsksLimit case (limit row.primary) row
  limit_asked row listed =
      let mapped = member_map (limit_row kind) (filter (λ (term : Term). nat_lt 0 (limit term.relay)) (terms_in case)) row listed in
      let kept = member_filter (λ (term : Term). nat_lt 0 (limit term.relay)) (terms_in case) mapped.0 mapped.1 in
      let P : Row → Type 0 = λ r. (r.kind ≡ kind) × AsksLimit case (limit r.primary) r in
      subst P mapped.2 (refl, record { one = refl; primary = (term_facts case mapped.0 kept.0).primary; limited = ltb-true 0 (limit mapped.0.relay) kept.1 })

  asked_limit : (f b p : ℕ) → (let row : Row = record { kind = kind; fault = f; backup = b; primary = p } in AsksLimit case (limit p) row) → Contains limit_rows (record { kind = kind; fault = f; backup = b; primary = p })
  asked_limit f b p asked =
      let P : ℕ → Type 0 = λ i. Contains limit_rows (record { kind = kind; fault = f; backup = i; primary = p }) in
      subst P (sym asked.one)
      (map_member (limit_row kind) (filter (λ (term : Term). nat_lt 0 (limit term.relay)) (terms_in case)) (record { fault = f; relay = p })
      (filter_member (λ (term : Term). nat_lt 0 (limit term.relay)) (terms_in case) (record { fault = f; relay = p }) ((terms_listed case (record { fault = f; relay = p })).1 asked.primary) (lt-ltb 0 (limit p) asked.limited)))

pub rows_asked : (case : Case) (row : Row) → Contains (rows_in case) row → IsAsked row.kind case row
rows_asked case row listed =
    let P : RowKind → Type 0 = λ kind. IsAsked kind case row in
    elim (Contains-append_cases (interval_rows case.study case.currents ++ least_rows case.study case.currents) (most_rows case.study case.currents) row listed) [
      | inl early ↦ elim (Contains-append_cases (interval_rows case.study case.currents) (least_rows case.study case.currents) row early) [
        | inl interval ↦ let is = interval_asked case row interval in subst P (sym is.0) is.1
        | inr least ↦ let is = limit_asked case Least (least_ms_of case.study) row least in subst P (sym is.0) is.1
      ]
      | inr most ↦ let is = limit_asked case Most (most_ms_of case.study) row most in subst P (sym is.0) is.1
    ]

pub asked_listed : (case : Case) (kind : RowKind) (f b p : ℕ) → (let row : Row = record { kind = kind; fault = f; backup = b; primary = p } in IsAsked kind case row) → Contains (rows_in case) (record { kind = kind; fault = f; backup = b; primary = p })
asked_listed case Interval f b p asked = interval_listed case (record { kind = Interval; fault = f; backup = b; primary = p }) (asked_interval case f b p asked)
asked_listed case Least f b p asked =
    let row : Row = record { kind = Least; fault = f; backup = b; primary = p } in
    Contains-append_left (interval_rows case.study case.currents ++ least_rows case.study case.currents) (most_rows case.study case.currents) row
    (Contains-append_right (interval_rows case.study case.currents) (least_rows case.study case.currents) row (asked_limit case Least (least_ms_of case.study) f b p asked))
asked_listed case Most f b p asked =
    let row : Row = record { kind = Most; fault = f; backup = b; primary = p } in
    Contains-append_right (interval_rows case.study case.currents ++ least_rows case.study case.currents) (most_rows case.study case.currents) row (asked_limit case Most (most_ms_of case.study) f b p asked)

pub rows_listed : (case : Case) (row : Row) → Contains (rows_in case) row ↔ IsAsked row.kind case row
rows_listed case row = (rows_asked case row, asked_listed case row.kind row.fault row.backup row.primary)

-- ---- in order

terms_at_in_order : (case : Case) (f : ℕ) → AllPairs TermBefore (terms_at case.study case.currents f)
terms_at_in_order case f =
    pairs_mapped TermBefore (λ (p : ℕ). record { fault = f; relay = p }) (filter (is_primary case.study case.currents f) (relay_numbers case.study))
    (λ i j d before below. inr (refl, AllPairs-filter (λ (a b : ℕ). a < b) (is_primary case.study case.currents f) (relay_numbers case.study) (numbers_ascend (length case.study.relays)) i j d before below))

term_fault : (case : Case) (f : ℕ) (term : Term) → Contains (terms_at case.study case.currents f) term → term.fault ≡ f
term_fault case f term listed =
    let mapped = member_map (λ p. record { fault = f; relay = p }) (filter (is_primary case.study case.currents f) (relay_numbers case.study)) term listed in
    ap (λ (t : Term). t.fault) (sym mapped.2)

pub terms_in_order : (case : Case) → AllPairs TermBefore (terms_in case)
terms_in_order case =
    pieces_joined TermBefore (terms_at case.study case.currents) (fault_numbers case.study) (numbers_ascend (length case.study.faults)) (terms_at_in_order case)
    (λ f g later x y x_in y_in. inl (omega (arith, later, term_fault case f x x_in, term_fault case g y y_in)))

behind_in_order : (case : Case) (f p : ℕ) → AllPairs RowBefore (rows_behind case.study case.currents f p)
behind_in_order case f p =
    pairs_mapped RowBefore (λ (b : ℕ). record { kind = Interval; fault = f; backup = b; primary = p }) (filter (waits case.study case.currents f p) (relay_numbers case.study))
    (λ i j d before below. inr (refl, inr (inr (refl, refl, AllPairs-filter (λ (a b : ℕ). a < b) (waits case.study case.currents f p) (relay_numbers case.study) (numbers_ascend (length case.study.relays)) i j d before below))))

at_in_order : (case : Case) (f : ℕ) → AllPairs RowBefore (rows_at case.study case.currents f)
at_in_order case f =
    pieces_joined RowBefore (rows_behind case.study case.currents f) (filter (is_primary case.study case.currents f) (relay_numbers case.study))
    (AllPairs-filter (λ (a b : ℕ). a < b) (is_primary case.study case.currents f) (relay_numbers case.study) (numbers_ascend (length case.study.relays))) (behind_in_order case f)
    (λ p q later x y x_in y_in.
    let first = is_behind case f p x x_in in
    let second = is_behind case f q y y_in in
    inr (first.kind ∙ sym second.kind, inr (inl (first.fault ∙ sym second.fault, omega (arith, later, first.primary, second.primary)))))

intervals_in_order : (case : Case) → AllPairs RowBefore (interval_rows case.study case.currents)
intervals_in_order case =
    pieces_joined RowBefore (rows_at case.study case.currents) (fault_numbers case.study) (numbers_ascend (length case.study.faults)) (at_in_order case)
    (λ f g later x y x_in y_in.
    let first = is_at case f x x_in in
    let second = is_at case g y y_in in
    inr (first.kind ∙ sym second.kind, inl (omega (arith, later, first.fault, second.fault))))

limits_in_order : (case : Case) (kind : RowKind) (limit : ℕ → ℕ) → AllPairs RowBefore (map (limit_row kind) (filter (λ (term : Term). nat_lt 0 (limit term.relay)) (terms_in case)))
limits_in_order case kind limit =
    pairs_mapped RowBefore (limit_row kind) (filter (λ (term : Term). nat_lt 0 (limit term.relay)) (terms_in case))
    (λ i j d before below. elim (AllPairs-filter TermBefore (λ (term : Term). nat_lt 0 (limit term.relay)) (terms_in case) (terms_in_order case) i j d before below) [
      | inl fault ↦ inr (refl, inl fault)
      | inr relay ↦ inr (refl, inr (inl relay))
    ])

-- rows of a kind come before those of a later one
kinds_apart : (row other : Row) (kind later : RowKind) → kind_place kind < kind_place later → row.kind ≡ kind → other.kind ≡ later → RowBefore row other
kinds_apart row other kind later below is other_is = inl (rw (is, other_is) below)

pub rows_in_order : (case : Case) → AllPairs RowBefore (rows_in case)
rows_in_order case =
    pairs_joined RowBefore (interval_rows case.study case.currents ++ least_rows case.study case.currents) (most_rows case.study case.currents)
    (pairs_joined RowBefore (interval_rows case.study case.currents) (least_rows case.study case.currents) (intervals_in_order case) (limits_in_order case Least (least_ms_of case.study))
    (λ x y x_in y_in. kinds_apart x y Interval Least (omega arith) (interval_asked case x x_in).0 (limit_asked case Least (least_ms_of case.study) y y_in).0))
    (limits_in_order case Most (most_ms_of case.study))
    (λ x y x_in y_in. elim (Contains-append_cases (interval_rows case.study case.currents) (least_rows case.study case.currents) x x_in) [
      | inl interval ↦ kinds_apart x y Interval Most (omega arith) (interval_asked case x interval).0 (limit_asked case Most (most_ms_of case.study) y y_in).0
      | inr least ↦ kinds_apart x y Least Most (omega arith) (limit_asked case Least (least_ms_of case.study) x least).0 (limit_asked case Most (most_ms_of case.study) y y_in).0
    ])

-- ---- each once

term_apart : (term other : Term) → TermBefore term other → term ≢ other
term_apart term other before same =
    let fault = ap (λ (t : Term). t.fault) same in
    let relay = ap (λ (t : Term). t.relay) same in
    elim before [ inl first ↦ omega (arith, first, fault) | inr second ↦ omega (arith, second.1, relay) ]

row_apart : (row other : Row) → RowBefore row other → row ≢ other
row_apart row other before same =
    let kind = ap (λ (r : Row). kind_place r.kind) same in
    let fault = ap (λ (r : Row). r.fault) same in
    let primary = ap (λ (r : Row). r.primary) same in
    let backup = ap (λ (r : Row). r.backup) same in
    elim before [
      | inl first ↦ omega (arith, first, kind)
      | inr second ↦ elim second.1 [
        | inl by_fault ↦ omega (arith, by_fault, fault)
        | inr rest ↦ elim rest [ inl by_primary ↦ omega (arith, by_primary.1, primary) | inr by_backup ↦ omega (arith, by_backup.2, backup) ]
      ]
    ]

pub terms_once : (case : Case) → AllPairs (λ (term other : Term). term ≢ other) (terms_in case)
terms_once case i j d before below = term_apart _ _ (terms_in_order case i j d before below)

pub rows_once : (case : Case) → AllPairs (λ (row other : Row). row ≢ other) (rows_in case)
rows_once case i j d before below = row_apart _ _ (rows_in_order case i j d before below)
