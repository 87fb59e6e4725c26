-- What the entries of a table keep: no two are for one fault and relay, and each fault of the study has a primary.
use Rattle.std.specs.Prelude.{find, if◌then◌else◌, ◌&&◌, ◌==◌, not, nat_lt, slice_get, IfOk, MatchResult}
use Rattle.std.specs.List.{AllPairs, list_any, range_with_len}
use Rattle.std.proofs.Common.{◌≡◌, ◌≢◌, ℕ, zero, suc, ◌+◌, ◌<◌, ◌≤◌, Bool, true, false, Option, Some, None, Result, Ok, Err, List, [], ◌∷◌, ◌++◌, length, get_or, All, refl, sym, ◌∙◌, inl, inr, arith, true≢false}
use Rattle.std.proofs.lemmas.Bool.{and_parts, cases_Bool, cases_lt}
use Rattle.std.proofs.lemmas.Bool.Decides.{nat_tests}
use Rattle.std.proofs.lemmas.List.Folds.{list_any_at}
use Rattle.std.proofs.lemmas.List.Quantifiers.{all_pairs_push}
use Rattle.coord_model.specs.Rows.{amps_at, stands_on}
use Rattle.coord_model.specs.StudyData.{StudyData, entries_of}
use Rattle.coord_model.specs.declared.study.Current.{Current}
use Rattle.coord_model.specs.declared.study.Currents.{Currents}
use Rattle.fault_table.specs.Entry.{Fields, go_on, is_repeated, next_entry, record_of}
use Rattle.fault_table.specs.Table.{AreForOne, HavePrimaries, entries_from, fed, feeds, is_header, table_of, unfed_fault}
use Rattle.fault_table.specs.declared.fault.TableFault.{TableFault}
use Rattle.fault_table.specs.declared.fault.TableFault.TheVariants.{BadHeader, DoubleEntry, NoMemory, NoPrimary, TooMany}

-- a reading that ends well went on from a value
from_value : {A B P : Type 0} (read : Result A TableFault) (next : A → Result B TableFault) (z : B) → go_on read next ≡ Ok z
    → ((x : A) → read ≡ Ok x → next x ≡ Ok z → P) → P
from_value (Ok x) next z h goes = goes x refl h
from_value (Err e) next z h goes = absurd (cc)

same_test : (a b x y : ℕ) → a ≡ x → b ≡ y → ((a == x) && (b == y)) ≡ true
same_test a b x y one other = grind (arith, nat_tests, one, other)

-- an entry that repeats none of the earlier ones is for another fault or relay than each
apart_from : (earlier : List Current) (entry : Current) → is_repeated earlier entry ≡ false → All (λ e. ¬ (AreForOne e entry)) earlier
apart_from earlier entry new k d within one =
    let e = get_or earlier k d in
    true≢false (sym (list_any_at (λ (e : Current). (e.fault == entry.fault) && (e.relay == entry.relay)) earlier k d within
    (same_test e.fault e.relay entry.fault entry.relay one.fault one.relay)) ∙ new)

unless_repeated : (earlier : List Current) (n : ℕ) (entry made : Current) (b : Bool) → is_repeated earlier entry ≡ b
    → ◌≡◌ {A = Result Current TableFault} (if b then Err (DoubleEntry n) else Ok entry) (Ok made) → is_repeated earlier made ≡ false
unless_repeated earlier n entry made true is h = absurd (cc)
unless_repeated earlier n entry made false is h =
    let same : entry ≡ made = cc in
    rw (← same) is

unless_many : (study : StudyData) (earlier : List Current) (n : ℕ) (fields : Fields) (made : Current) (b : Bool)
    → (if b then Err (TooMany 8192) else go_on (record_of study n fields) (λ entry. if is_repeated earlier entry then Err (DoubleEntry n) else Ok entry)) ≡ Ok made
    → is_repeated earlier made ≡ false
unless_many study earlier n fields made true h = absurd (cc)
unless_many study earlier n fields made false h =
    from_value (record_of study n fields) (λ entry. if is_repeated earlier entry then Err (DoubleEntry n) else Ok entry) made h (λ entry _ h.
    unless_repeated earlier n entry made (is_repeated earlier entry) refl h)

next_new : (study : StudyData) (earlier : List Current) (fields : Fields) (entry : Current) → next_entry study earlier fields ≡ Ok entry
    → is_repeated earlier entry ≡ false
unfolding next_entry
next_new study earlier fields entry h = unless_many study earlier (length earlier + 1) fields entry (nat_lt 8192 (length earlier + 1)) h

entries_once : (study : StudyData) (earlier : List Current) (records : List Fields) (entries : List Current)
    → AllPairs (λ one other. ¬ (AreForOne one other)) earlier → entries_from study earlier records ≡ Ok entries
    → AllPairs (λ one other. ¬ (AreForOne one other)) entries
unfolding entries_from
entries_once study earlier [] entries apart h =
    let same : earlier ≡ entries = cc in
    rw (← same) apart
entries_once study earlier (fields ∷ rest) entries apart h =
    from_value (next_entry study earlier fields) (λ entry. entries_from study (earlier ++ entry ∷ []) rest) entries h (λ entry next rest_h.
    entries_once study (earlier ++ entry ∷ []) rest entries
    (all_pairs_push (λ one other. ¬ (AreForOne one other)) earlier entry apart (apart_from earlier entry (next_new study earlier fields entry next))) rest_h)

-- a relay that is on the fault's line and has a current at it
module _ (study : StudyData) (f : ℕ) where
  abbrev stands : ℕ → Bool
  stands p = stands_on (slice_get study.faults f) (slice_get study.relays p)

  record Feeder (entries : List Current) : Type 0 where
    pub relay : ℕ
    pub on_line : stands relay ≡ true
    pub current : nat_lt 0 (amps_at entries f relay) ≡ true

  -- whose entry is the first
  first_feeder : (entry : Current) (entries : List Current) → feeds study f entry ≡ true → Feeder (entry ∷ entries)
  first_feeder entry entries h =
      let parts = and_parts ((entry.fault == f) && nat_lt 0 entry.amps) (stands entry.relay) h in
      let more = and_parts (entry.fault == f) (nat_lt 0 entry.amps) parts.0 in
      let own : (entry.relay == entry.relay) ≡ true = grind (arith, nat_tests) in
      record { relay = entry.relay; on_line = parts.1; current = rw (more.0, own, more.1, more.1) refl }

  -- or who has one later
  later_feeder : (entry : Current) (entries : List Current) → Feeder entries → Feeder (entry ∷ entries)
  later_feeder entry entries feeder = record { relay = feeder.relay; on_line = feeder.on_line; current = at _ refl }
    where
      at : (b : Bool) → ((entry.fault == f) && (entry.relay == feeder.relay) && nat_lt 0 entry.amps) ≡ b
          → nat_lt 0 (amps_at (entry ∷ entries) f feeder.relay) ≡ true
      at true h =
          let parts = and_parts ((entry.fault == f) && (entry.relay == feeder.relay)) (nat_lt 0 entry.amps) h in
          rw h parts.1
      at false h = rw h feeder.current

  feeder_of : (entries : List Current) → list_any (feeds study f) entries ≡ true → Feeder entries
  feeder_of [] h = absurd (cc)
  feeder_of (entry ∷ entries) h =
      elim (cases_Bool (feeds study f entry)) [
        | inl feeding ↦ first_feeder entry entries feeding
        | inr other ↦ later_feeder entry entries (feeder_of entries (rw other at h))
      ]

-- a search over a count that finds nothing passes each number by
found_none : (p : ℕ → Bool) (a n f : ℕ) → find p (range_with_len a n) ≡ None → a ≤ f → f < a + n → p f ≡ false
found_none p a zero f none from within = absurd (omega (arith, from, within))
found_none p a (suc n) f none from within =
    elim (cases_Bool (p a)) [
      | inl passes ↦
          let found : ◌≡◌ {A = Option ℕ} (Some a) None = rw passes at none in
          absurd (cc)
      | inr fails ↦
          elim (cases_lt a f) [
            | inl later ↦ found_none p (a + 1) n f (rw fails at none) (omega (arith, later)) (omega (arith, within))
            | inr here ↦
                let same : f ≡ a = omega (arith, here, from) in
                rw same fails
          ]
    ]

not_false : (b : Bool) → not b ≡ false → b ≡ true
not_false true h = refl
not_false false h = absurd (cc)

fed_is : (study : StudyData) (entries made : List Current) (found : Option ℕ) → unfed_fault study entries ≡ found
    → (elim found as (λ _. Result (List Current) TableFault) [ None ↦ Ok entries | Some f ↦ Err (NoPrimary f) ]) ≡ Ok made
    → (entries ≡ made) × (unfed_fault study entries ≡ None)
fed_is study entries made None is h = (cc, is)
fed_is study entries made (Some f) is h = absurd (cc)

have_primaries : (study : StudyData) (entries : List Current) → unfed_fault study entries ≡ None → HavePrimaries study entries
unfolding unfed_fault
have_primaries study entries none f within =
    let fed = not_false (list_any (feeds study f) entries) (found_none (λ f. not (list_any (feeds study f) entries)) 0 (length study.faults) f none (omega arith) (omega (arith, within))) in
    let feeder = feeder_of study f entries fed in
    (feeder.relay, rw (feeder.on_line, feeder.current) refl)

-- what entries keep
record Keeps (study : StudyData) (entries : List Current) : Type 0 where
  pub primaries : HavePrimaries study entries
  pub once : AllPairs (λ one other. ¬ (AreForOne one other)) entries

table_keeps : (study : StudyData) (records : List Fields) (entries : List Current) → table_of study records ≡ Ok entries → Keeps study entries
table_keeps study [] entries h = absurd (cc)
table_keeps study (first ∷ rest) entries h =
    elim (cases_Bool (is_header first)) [
      | inl header ↦
          from_value (entries_from study [] rest) (fed study) entries (rw header at h) (λ made read is_fed.
          let is = fed_is study made entries (unfed_fault study made) refl is_fed in
          record {
            primaries = rw (← is.0) (have_primaries study made is.1);
            once = rw (← is.0) (entries_once study [] rest made (λ i j d lt within. absurd (omega arith)) read);
          })
      | inr other ↦
          let refused : ◌≡◌ {A = Result (List Current) TableFault} (Err BadHeader) (Ok entries) = rw other at h in
          absurd (cc)
    ]

-- the same of the currents that a function returns
module _ (study : StudyData) (records : List Fields) where
  pub given_primaries : (result : Result Currents TableFault)
      → MatchResult result (λ currents. table_of study records ≡ Ok (entries_of currents)) (λ fault. fault ≢ NoMemory → table_of study records ≡ Err fault)
      → IfOk result (λ currents. HavePrimaries study (entries_of currents))
  given_primaries (Ok currents) exact = (table_keeps study records (entries_of currents) exact).primaries
  given_primaries (Err fault) exact = tt

  pub given_once : (result : Result Currents TableFault)
      → MatchResult result (λ currents. table_of study records ≡ Ok (entries_of currents)) (λ fault. fault ≢ NoMemory → table_of study records ≡ Err fault)
      → IfOk result (λ currents. AllPairs (λ one other. ¬ (AreForOne one other)) (entries_of currents))
  given_once (Ok currents) exact = (table_keeps study records (entries_of currents) exact).once
  given_once (Err fault) exact = tt
