-- The table of currents, entry by entry.
use Rattle.std.specs.Prelude.{◌&&◌, ◌==◌, nat_lt}
use Rattle.std.proofs.Common.{◌≡◌, ℕ, ◌+◌, ◌*◌, ◌<◌, Bool, true, false, cond, List, [], ◌∷◌, ◌++◌, length, set, take, get_or, arith, refl, sym, ap, ◌∙◌, inl, inr, subst}
use Rattle.std.proofs.lemmas.Bool.{cases_eq, cases_lt, eqb-true}
use Rattle.std.proofs.lemmas.Bool.Decides.{nat_tests}
use Rattle.std.proofs.lemmas.List.{length-set, take_more, get_or-set_same, get_or-set_other}
use Rattle.std.proofs.lemmas.Nat.{same_from_place}
use Rattle.std.specs.List.{All}
use Rattle.coord_model.specs.Rows.{amps_at}
use Rattle.coord_model.specs.declared.study.Current.{Current}
use Rattle.margin_rows.specs.Given.{HasPlace, HoldsAmps}

-- whether an entry is for the fault and the relay, above 0
abbrev is_for : Current → ℕ → ℕ → Bool
is_for entry f r = (entry.fault == f) && (entry.relay == r) && nat_lt 0 entry.amps

-- a current that stands is not changed by later entries
pub amps_kept : (xs ys : List Current) (f r : ℕ) → 0 < amps_at xs f r → amps_at (xs ++ ys) f r ≡ amps_at xs f r
amps_kept [] ys f r some = absurd (omega (arith, some))
amps_kept (x ∷ xs) ys f r some =
    elim ((x.fault == f) && (x.relay == r) && nat_lt 0 x.amps) as (λ b. 0 < cond b x.amps (amps_at xs f r) → cond b x.amps (amps_at (xs ++ ys) f r) ≡ cond b x.amps (amps_at xs f r))
    [ true ↦ λ _. refl | false ↦ λ rest. amps_kept xs ys f r rest ] some

above_zero : (a b : Bool) (n : ℕ) → (a && b && nat_lt 0 n) ≡ true → n ≡ 0 → ⊥
above_zero a b n is none = grind (arith, nat_tests)

open_cases : (b t : Bool) (n rest all ys : ℕ) → t ≡ b → (t ≡ true → n ≡ 0 → ⊥) → (rest ≡ 0 → all ≡ ys) → cond b n rest ≡ 0 → cond b n all ≡ ys
open_cases false t n rest all ys is some later none = later none
open_cases true t n rest all ys is some later none = absurd (some is none)

-- where none stands, later entries decide
pub amps_open : (xs ys : List Current) (f r : ℕ) → amps_at xs f r ≡ 0 → amps_at (xs ++ ys) f r ≡ amps_at ys f r
amps_open [] ys f r none = refl
amps_open (x ∷ xs) ys f r none =
    open_cases (is_for x f r) (is_for x f r) x.amps (amps_at xs f r) (amps_at (xs ++ ys) f r) (amps_at ys f r) refl (above_zero (x.fault == f) (x.relay == r) x.amps) (amps_open xs ys f r) none

-- one entry for the fault and the relay is their current
pub amps_of_one : (entry : Current) (f r : ℕ) → entry.fault ≡ f → entry.relay ≡ r → amps_at (entry ∷ []) f r ≡ entry.amps
amps_of_one entry f r fault relay = grind (arith, nat_tests)

-- an entry for others is none
pub amps_of_other : (entry : Current) (f r : ℕ) → ((entry.fault ≡ f) × (entry.relay ≡ r) → ⊥) → amps_at (entry ∷ []) f r ≡ 0
amps_of_other entry f r apart = other (entry.fault == f) (entry.relay == r) (nat_lt 0 entry.amps) entry.amps (λ a b. apart (eqb-true entry.fault f a, eqb-true entry.relay r b))
  where
    other : (a b c : Bool) (n : ℕ) → (a ≡ true → b ≡ true → ⊥) → cond (a && b && c) n 0 ≡ 0
    other true true c n apart = absurd (apart refl refl)
    other true false c n apart = refl
    other false b c n apart = refl

-- the current of others stays
others_stay : (relays : ℕ) (xs : List Current) (entry : Current) (f r : ℕ) → ((entry.fault ≡ f) × (entry.relay ≡ r) → ⊥) → amps_at (xs ++ entry ∷ []) f r ≡ amps_at xs f r
others_stay relays xs entry f r apart =
    elim (cases_lt 0 (amps_at xs f r)) [
      | inl some ↦ amps_kept xs (entry ∷ []) f r some
      | inr none ↦ let zero : amps_at xs f r ≡ 0 = omega (arith, none) in amps_open xs (entry ∷ []) f r zero ∙ amps_of_other entry f r apart ∙ sym zero
    ]

-- one entry more, written where nothing stands yet
pub filled_write : (relays : ℕ) (xs : List Current) (entry : Current) (table : List ℕ) → HoldsAmps relays xs table → HasPlace relays (length table) entry
    → get_or table (entry.fault * relays + entry.relay) 0 ≡ 0 → HoldsAmps relays (xs ++ entry ∷ []) (set table (entry.fault * relays + entry.relay) entry.amps)
filled_write relays xs entry table holds place empty = record { each = λ f r below within. written f r below (omega (arith, within, length-set table (entry.fault * relays + entry.relay) entry.amps)) }
  where
    written : (f r : ℕ) → r < relays → f * relays + r < length table → get_or (set table (entry.fault * relays + entry.relay) entry.amps) (f * relays + r) 0 ≡ amps_at (xs ++ entry ∷ []) f r
    written f r below within =
        elim (cases_eq (f * relays + r) (entry.fault * relays + entry.relay)) [
          | inl same ↦
              let parts = same_from_place f r entry.fault entry.relay relays below place.relay same in
              let none : amps_at xs f r ≡ 0 = sym (holds.each f r below within) ∙ ap (λ (k : ℕ). get_or table k 0) same ∙ empty in
              (ap (λ (k : ℕ). get_or (set table (entry.fault * relays + entry.relay) entry.amps) k 0) same ∙ get_or-set_same table (entry.fault * relays + entry.relay) entry.amps 0 place.place)
              ∙ sym (amps_open xs (entry ∷ []) f r none ∙ amps_of_one entry f r (sym parts.0) (sym parts.1))
          | inr apart ↦
              (get_or-set_other table (entry.fault * relays + entry.relay) (f * relays + r) entry.amps 0 apart ∙ holds.each f r below within)
              ∙ sym (others_stay relays xs entry f r (λ p. apart (ap (λ (k : ℕ). k * relays + r) (sym p.0) ∙ ap (λ (k : ℕ). entry.fault * relays + k) (sym p.1))))
        ]

-- one entry more, where a current stands already
pub filled_kept : (relays : ℕ) (xs : List Current) (entry : Current) (table : List ℕ) → HoldsAmps relays xs table → HasPlace relays (length table) entry
    → (get_or table (entry.fault * relays + entry.relay) 0 ≡ 0 → ⊥) → HoldsAmps relays (xs ++ entry ∷ []) table
filled_kept relays xs entry table holds place stands = record { each = λ f r below within. holds.each f r below within ∙ sym (kept f r below within) }
  where
    kept : (f r : ℕ) → r < relays → f * relays + r < length table → amps_at (xs ++ entry ∷ []) f r ≡ amps_at xs f r
    kept f r below within =
        elim (cases_eq (f * relays + r) (entry.fault * relays + entry.relay)) [
          | inl same ↦
              let nonzero : amps_at xs f r ≡ 0 → ⊥ = λ zero. stands (ap (λ (k : ℕ). get_or table k 0) (sym same) ∙ holds.each f r below within ∙ zero) in
              amps_kept xs (entry ∷ []) f r (omega (arith, nonzero))
          | inr apart ↦ others_stay relays xs entry f r (λ p. apart (ap (λ (k : ℕ). k * relays + r) (sym p.0) ∙ ap (λ (k : ℕ). entry.fault * relays + k) (sym p.1)))
        ]

-- the loop's step: the entry at a place of the list is written, or one stands there already
pub fill_write : (relays : ℕ) (entries : List Current) (i n : ℕ) (table later : List ℕ) (f r : ℕ) (d : Current) → i < length entries → HoldsAmps relays (take i entries) table
    → All (HasPlace relays n) entries → length table ≡ n → f ≡ (get_or entries i d).fault → r ≡ (get_or entries i d).relay
    → get_or table (f * relays + r) 0 ≡ 0 → later ≡ set table (f * relays + r) (get_or entries i d).amps → HoldsAmps relays (take (i + 1) entries) later
fill_write relays entries i n table later f r d below holds places size fault relay empty written =
    let e = get_or entries i d in
    let P : ℕ → Type 0 = λ k. HasPlace relays k e in
    let place : HasPlace relays (length table) e = subst P (sym size) (places i d below) in
    let at : f * relays + r ≡ e.fault * relays + e.relay = ap (λ (k : ℕ). k * relays + r) fault ∙ ap (λ (k : ℕ). e.fault * relays + k) relay in
    rw (take_more entries i d below, written, at)
    (filled_write relays (take i entries) e table holds place (ap (λ (k : ℕ). get_or table k 0) (sym at) ∙ empty))

pub fill_kept : (relays : ℕ) (entries : List Current) (i n : ℕ) (table later : List ℕ) (f r : ℕ) (d : Current) → i < length entries → HoldsAmps relays (take i entries) table
    → All (HasPlace relays n) entries → length table ≡ n → f ≡ (get_or entries i d).fault → r ≡ (get_or entries i d).relay
    → (get_or table (f * relays + r) 0 ≡ 0 → ⊥) → later ≡ table → HoldsAmps relays (take (i + 1) entries) later
fill_kept relays entries i n table later f r d below holds places size fault relay stands same =
    let e = get_or entries i d in
    let P : ℕ → Type 0 = λ k. HasPlace relays k e in
    let place : HasPlace relays (length table) e = subst P (sym size) (places i d below) in
    let at : f * relays + r ≡ e.fault * relays + e.relay = ap (λ (k : ℕ). k * relays + r) fault ∙ ap (λ (k : ℕ). e.fault * relays + k) relay in
    rw (take_more entries i d below, same)
    (filled_kept relays (take i entries) e table holds place (λ zero. stands (ap (λ (k : ℕ). get_or table k 0) at ∙ zero)))
