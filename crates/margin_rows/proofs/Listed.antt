-- The terms and rows of a case name faults and relays of its study.
use Rattle.std.specs.Prelude.{nat_lt}
use Rattle.std.proofs.Common.{◌≡◌, ℕ, ◌<◌, Bool, true, List, ◌++◌, map, length, ◌⊎◌, inl, inr, refl, sym, ap, ◌∙◌, subst, get_or}
use Rattle.std.proofs.lemmas.List.Elements.{Contains-get_or, Contains-append_cases, Contains-append_left}
use Rattle.std.specs.List.{Contains, filter}
use Rattle.coord_model.specs.Allowed.{IsUsed}
use Rattle.coord_model.specs.Rows.{is_primary, waits, terms_at, interval_rows, least_rows, most_rows, least_ms_of, most_ms_of, limit_row, rows_at, rows_behind, fault_numbers}
use Rattle.coord_model.specs.Pairs.{relay_numbers}
use Rattle.coord_model.specs.declared.study.Row.{Row}
use Rattle.coord_model.specs.declared.study.RowKind.{RowKind}
use Rattle.coord_model.specs.declared.study.RowKind.TheVariants.{Interval, Least, Most}
use Rattle.coord_model.specs.declared.study.Term.{Term}
use Rattle.margin_rows.specs.Case.{Case, rows_in, terms_in, row_at}
use Rattle.relay_pairs.proofs.Members.{member_map, map_member, member_filter, filter_member, member_flat_map, flat_map_member, member_number, number_member}

-- a term is of a fault and a relay that clears it first
pub record IsTermOf (case : Case) (term : Term) : Type 0 where
  pub fault : term.fault < length case.study.faults
  pub relay : term.relay < length case.study.relays
  pub primary : is_primary case.study case.currents term.fault term.relay ≡ true

pub term_facts : (case : Case) (term : Term) → Contains (terms_in case) term → IsTermOf case term
term_facts case term listed =
    let at_fault = member_flat_map (terms_at case.study case.currents) (fault_numbers case.study) term listed in
    let f = at_fault.0 in
    let mapped = member_map (λ p. record { fault = f; relay = p }) (filter (is_primary case.study case.currents f) (relay_numbers case.study)) term at_fault.2 in
    let kept = member_filter (is_primary case.study case.currents f) (relay_numbers case.study) mapped.0 mapped.1 in
    let P : Term → Type 0 = λ t. IsTermOf case t in
    subst P mapped.2 (record {
      fault = member_number (length case.study.faults) f at_fault.1;
      relay = member_number (length case.study.relays) mapped.0 kept.0;
      primary = kept.1;
    })

pub is_term : (case : Case) (f p : ℕ) → f < length case.study.faults → p < length case.study.relays → is_primary case.study case.currents f p ≡ true
    → Contains (terms_in case) (record { fault = f; relay = p })
is_term case f p fault relay primary =
    flat_map_member (terms_at case.study case.currents) (fault_numbers case.study) f (record { fault = f; relay = p }) (number_member (length case.study.faults) f fault)
    (map_member (λ (r : ℕ). record { fault = f; relay = r }) (filter (is_primary case.study case.currents f) (relay_numbers case.study)) p
    (filter_member (is_primary case.study case.currents f) (relay_numbers case.study) p (number_member (length case.study.relays) p relay) primary))

-- a row is of a fault, a relay that clears it first, and a relay that has a current there
pub record IsRowOf (case : Case) (row : Row) : Type 0 where
  pub fault : row.fault < length case.study.faults
  pub backup : row.backup < length case.study.relays
  pub primary : row.primary < length case.study.relays
  pub clears : is_primary case.study case.currents row.fault row.primary ≡ true
  pub used : IsUsed case.study case.currents row.fault row.backup
  pub one : (row.kind ≡ Interval) ⊎ (row.backup ≡ row.primary)

interval_facts : (case : Case) (row : Row) → Contains (interval_rows case.study case.currents) row → IsRowOf case row
interval_facts case row listed =
    let at_fault = member_flat_map (rows_at case.study case.currents) (fault_numbers case.study) row listed in
    let f = at_fault.0 in
    let behind = member_flat_map (rows_behind case.study case.currents f) (filter (is_primary case.study case.currents f) (relay_numbers case.study)) row at_fault.2 in
    let p = behind.0 in
    let clears = member_filter (is_primary case.study case.currents f) (relay_numbers case.study) p behind.1 in
    let mapped = member_map (λ b. record { kind = Interval; fault = f; backup = b; primary = p }) (filter (waits case.study case.currents f p) (relay_numbers case.study)) row behind.2 in
    let kept = member_filter (waits case.study case.currents f p) (relay_numbers case.study) mapped.0 mapped.1 in
    let P : Row → Type 0 = λ r. Contains (interval_rows case.study case.currents) r → IsRowOf case r in
    subst P mapped.2 (λ there. record {
      fault = member_number (length case.study.faults) f at_fault.1;
      backup = member_number (length case.study.relays) mapped.0 kept.0;
      primary = member_number (length case.study.relays) p clears.0;
      clears = clears.1;
      used = inr (p, there);
      one = inl refl;
    }) listed

limit_facts : (case : Case) (kind : RowKind) (test : Term → Bool) (row : Row) → Contains (map (limit_row kind) (filter test (terms_in case))) row → IsRowOf case row
limit_facts case kind test row listed =
    let mapped = member_map (limit_row kind) (filter test (terms_in case)) row listed in
    let kept = member_filter test (terms_in case) mapped.0 mapped.1 in
    let facts = term_facts case mapped.0 kept.0 in
    let P : Row → Type 0 = λ r. IsRowOf case r in
    subst P mapped.2 (record { fault = facts.fault; backup = facts.relay; primary = facts.relay; clears = facts.primary; used = inl kept.0; one = inr refl })

pub row_facts : (case : Case) (row : Row) → Contains (rows_in case) row → IsRowOf case row
row_facts case row listed =
    elim (Contains-append_cases (interval_rows case.study case.currents ++ least_rows case.study case.currents) (most_rows case.study case.currents) row listed) [
      | inl early ↦ elim (Contains-append_cases (interval_rows case.study case.currents) (least_rows case.study case.currents) row early) [
        | inl interval ↦ interval_facts case row interval
        | inr least ↦ limit_facts case Least (λ term. nat_lt 0 (least_ms_of case.study term.relay)) row least
      ]
      | inr most ↦ limit_facts case Most (λ term. nat_lt 0 (most_ms_of case.study term.relay)) row most
    ]

-- an interval row is a row
pub interval_listed : (case : Case) (row : Row) → Contains (interval_rows case.study case.currents) row → Contains (rows_in case) row
interval_listed case row listed =
    Contains-append_left (interval_rows case.study case.currents ++ least_rows case.study case.currents) (most_rows case.study case.currents) row
    (Contains-append_left (interval_rows case.study case.currents) (least_rows case.study case.currents) row listed)

-- the relays of terms and rows have currents that count
pub term_used : (case : Case) (term : Term) → Contains (terms_in case) term → IsUsed case.study case.currents term.fault term.relay
term_used case term listed = inl listed

pub backup_used : (case : Case) (row : Row) → Contains (rows_in case) row → IsUsed case.study case.currents row.fault row.backup
backup_used case row listed = (row_facts case row listed).used

pub primary_used : (case : Case) (row : Row) → Contains (rows_in case) row → IsUsed case.study case.currents row.fault row.primary
primary_used case row listed =
    let facts = row_facts case row listed in
    inl (is_term case row.fault row.primary facts.fault facts.primary facts.clears)

-- the row with a number is listed
pub at_number : (case : Case) (row : ℕ) → row < length (rows_in case) → Contains (rows_in case) (row_at case row)
at_number case row below = Contains-get_or (rows_in case) row _ below

-- the facts of the term and of the row at a place
pub term_facts_at : (case : Case) (terms : List Term) (i : ℕ) (d : Term) → terms ≡ terms_in case → i < length terms → IsTermOf case (get_or terms i d)
term_facts_at case terms i d is below =
    term_facts case (get_or terms i d) (let P : List Term → Type 0 = λ ts. Contains ts (get_or terms i d) in subst P is (Contains-get_or terms i d below))

pub row_listed : (case : Case) (rows : List Row) (i : ℕ) (d : Row) → rows ≡ rows_in case → i < length rows → Contains (rows_in case) (get_or rows i d)
row_listed case rows i d is below = let P : List Row → Type 0 = λ rs. Contains rs (get_or rows i d) in subst P is (Contains-get_or rows i d below)

pub row_facts_at : (case : Case) (rows : List Row) (i : ℕ) (d : Row) → rows ≡ rows_in case → i < length rows → IsRowOf case (get_or rows i d)
row_facts_at case rows i d is below = row_facts case (get_or rows i d) (row_listed case rows i d is below)

-- the term that the code reads
pub term_read : (case : Case) (terms : List Term) (i term : ℕ) (x : Term) → terms ≡ terms_in case → i ≡ term → term < length (terms_in case) → x ≡ get_or terms i x → IsTermOf case x
term_read case terms i term x same is below read =
    let P : Term → Type 0 = λ t. IsTermOf case t in
    subst P (sym (read ∙ ap (λ (k : ℕ). get_or terms k x) is ∙ ap (λ (ts : List Term). get_or ts term x) same)) (term_facts case (get_or (terms_in case) term x) (Contains-get_or (terms_in case) term x below))

-- the row that the code reads
pub row_read : (case : Case) (rows : List Row) (i row : ℕ) (x : Row) → rows ≡ rows_in case → i ≡ row → row < length (rows_in case) → x ≡ get_or rows i x → IsRowOf case x
row_read case rows i row x same is below read =
    let P : Row → Type 0 = λ r. IsRowOf case r in
    subst P (sym (read ∙ ap (λ (k : ℕ). get_or rows k x) is ∙ ap (λ (rs : List Row). get_or rs row x) same)) (row_facts case (get_or (rows_in case) row x) (Contains-get_or (rows_in case) row x below))
