-- A line has two ends and an end has one relay at most: so two relays at most clear a fault first.
use Rattle.std.specs.Prelude.{◌&&◌, ◌||◌, ◌==◌, slice_get}
use Rattle.std.specs.List.{AllPairs, filter}
use Rattle.std.proofs.Common.{◌≡◌, ℕ, ◌<◌, ◌≤◌, ◌⊎◌, inl, inr, Bool, true, List, length, get_or, Some, None, Option, arith, refl, sym, ◌∙◌, subst}
use Rattle.std.proofs.lemmas.Bool.{cases_eq, cases_lt}
use Rattle.std.proofs.lemmas.Bool.Decides.{nat_tests}
use Rattle.std.proofs.lemmas.List.{length-map}
use Rattle.std.proofs.lemmas.List.Elements.{filter_passes}
use Rattle.std.proofs.lemmas.List.FromFn.{get_or-range_with_len, length-range_with_len}
use Rattle.std.proofs.lemmas.List.Kept.{AllPairs-filter}
use Rattle.std.proofs.lemmas.Option.{get_or_from_slice_get, slice_get_within}
use Rattle.coord_model.specs.PartLimits.{FitsRelay}
use Rattle.coord_model.specs.Limits.{FitsStudy, StandTogether}
use Rattle.coord_model.specs.Pairs.{ends_at, relay_numbers}
use Rattle.coord_model.specs.Rows.{is_primary, stands_on, terms_at}
use Rattle.coord_model.specs.declared.study.Fault.{Fault}
use Rattle.coord_model.specs.declared.study.Line.{Line}
use Rattle.coord_model.specs.declared.study.Relay.{Relay}
use Rattle.coord_model.specs.declared.study.Term.{Term}
use Rattle.margin_rows.specs.Case.{Case}
use Rattle.margin_rows.proofs.Timed.{at_place}

-- the relay stands on the line
record StandsOn (case : Case) (line i : ℕ) : Type 0 where
  relay : Relay
  found : slice_get case.study.relays i ≡ Some relay
  on_line : relay.line ≡ line

-- the line of a fault, if there is the fault
abbrev line_of : Option Fault → ℕ
line_of None = 0
line_of (Some fault) = fault.line

-- a relay that clears a fault first stands on the fault's line
primary_stands : (case : Case) (f i : ℕ) → is_primary case.study case.currents f i ≡ true → StandsOn case (line_of (slice_get case.study.faults f)) i
primary_stands case f i is = go (slice_get case.study.faults f) (slice_get case.study.relays i) _ refl is
  where
    same_line : (a b : ℕ) (c : Bool) → ((a == b) && c) ≡ true → a ≡ b
    same_line a b c is = grind (arith, nat_tests)

    go : (o : Option Fault) (r : Option Relay) (b : Bool) → slice_get case.study.relays i ≡ r → (stands_on o r && b) ≡ true → StandsOn case (line_of o) i
    go None r b found is = absurd (cc)
    go (Some fault) None b found is = absurd (cc)
    go (Some fault) (Some relay) b found is = record { relay = relay; found = found; on_line = same_line relay.line fault.line b is }

-- an end of a line is one of two buses
end_of_two : (o : Option Line) (bus : ℕ) → ends_at o bus ≡ true → (from to : ℕ) × ((bus ≡ from) ⊎ (bus ≡ to)) × ((other : ℕ) → ends_at o other ≡ true → (other ≡ from) ⊎ (other ≡ to))
end_of_two None bus is = absurd (cc)
end_of_two (Some line) bus is = (line.from, line.to, either line.from line.to bus is, λ other also. either line.from line.to other also)
  where
    either : (x y a : ℕ) → ((x == a) || (y == a)) ≡ true → (a ≡ x) ⊎ (a ≡ y)
    either x y a is = elim (cases_eq a x) [
      | inl same ↦ inl same
      | inr apart ↦ inr (grind (arith, nat_tests))
    ]

-- so of three ends of a line two are the same
two_same : (from to a b c : ℕ) → (a ≡ from) ⊎ (a ≡ to) → (b ≡ from) ⊎ (b ≡ to) → (c ≡ from) ⊎ (c ≡ to) → (a ≡ b) ⊎ ((a ≡ c) ⊎ (b ≡ c))
two_same from to a b c (inl a_is) (inl b_is) c_is = inl (a_is ∙ sym b_is)
two_same from to a b c (inr a_is) (inr b_is) c_is = inl (a_is ∙ sym b_is)
two_same from to a b c (inl a_is) (inr b_is) (inl c_is) = inr (inl (a_is ∙ sym c_is))
two_same from to a b c (inl a_is) (inr b_is) (inr c_is) = inr (inr (b_is ∙ sym c_is))
two_same from to a b c (inr a_is) (inl b_is) (inl c_is) = inr (inr (b_is ∙ sym c_is))
two_same from to a b c (inr a_is) (inl b_is) (inr c_is) = inr (inl (a_is ∙ sym c_is))

module _ (case : Case) (fits : FitsStudy case.study) (line : ℕ) where
  at_end : (i : ℕ) (on : StandsOn case line i) → ends_at (slice_get case.study.lines line) on.relay.bus ≡ true
  at_end i on =
      let relay_fits = at_place (FitsRelay case.study) case.study.relays i on.relay fits.relays on.found in
      subst (λ l. ends_at (slice_get case.study.lines l) on.relay.bus ≡ true) on.on_line relay_fits.at_end

  -- two relays on a line stand at different ends
  apart : (i j : ℕ) (one : StandsOn case line i) (other : StandsOn case line j) → i < j → one.relay.bus ≡ other.relay.bus → ⊥
  apart i j one other before same =
      let first : get_or case.study.relays i one.relay ≡ one.relay = get_or_from_slice_get case.study.relays i one.relay one.relay one.found in
      let later : get_or case.study.relays j one.relay ≡ other.relay = get_or_from_slice_get case.study.relays j other.relay one.relay other.found in
      let together : StandTogether one.relay other.relay = record { line = one.on_line ∙ sym other.on_line; bus = same } in
      let moved : StandTogether (get_or case.study.relays i one.relay) (get_or case.study.relays j one.relay) =
      subst (λ r. StandTogether (get_or case.study.relays i one.relay) r) (sym later) (subst (λ r. StandTogether r other.relay) (sym first) together) in
      fits.apart i j one.relay before (slice_get_within case.study.relays j other.relay other.found) moved

  no_three : (a b c : ℕ) → a < b → b < c → StandsOn case line a → StandsOn case line b → StandsOn case line c → ⊥
  no_three a b c ab bc at_a at_b at_c =
      let ends = end_of_two (slice_get case.study.lines line) at_a.relay.bus (at_end a at_a) in
      elim (two_same ends.0 ends.1 at_a.relay.bus at_b.relay.bus at_c.relay.bus ends.2 (ends.3 at_b.relay.bus (at_end b at_b)) (ends.3 at_c.relay.bus (at_end c at_c))) [
        | inl same ↦ apart a b at_a at_b ab same
        | inr more ↦ elim more [ inl same ↦ apart a c at_a at_c (omega (arith, ab, bc)) same | inr same ↦ apart b c at_b at_c bc same ]
      ]

-- a fault has at most two terms
pub terms_at_few : (case : Case) (f : ℕ) → FitsStudy case.study → length (terms_at case.study case.currents f) ≤ 2
terms_at_few case f fits = elim (cases_lt 2 (length primaries)) [
  | inl three ↦ absurd (no_three case fits (line_of (slice_get case.study.faults f)) (at 0) (at 1) (at 2)
      (rise 0 1 0 (omega arith) (omega (arith, three))) (rise 1 2 0 (omega arith) (omega (arith, three)))
      (stands 0 (omega (arith, three))) (stands 1 (omega (arith, three))) (stands 2 (omega (arith, three))))
  | inr few ↦ omega (arith, few, length-map primaries (λ (p : ℕ). let t : Term = record { fault = f; relay = p } in t))
]
  where
    primaries : List ℕ
    primaries = filter (is_primary case.study case.currents f) (relay_numbers case.study)

    at : ℕ → ℕ
    at k = get_or primaries k 0

    numbers_rise : AllPairs (λ x y. x < y) (relay_numbers case.study)
    numbers_rise = λ i j d before within.
        let n = length case.study.relays in
        let count = length-range_with_len 0 n in
        omega (arith, before, get_or-range_with_len 0 n i d (omega (arith, before, within, count)), get_or-range_with_len 0 n j d (omega (arith, within, count)))

    rise : AllPairs (λ x y. x < y) primaries
    rise = AllPairs-filter (λ x y. x < y) (is_primary case.study case.currents f) (relay_numbers case.study) numbers_rise

    stands : (k : ℕ) → k < length primaries → StandsOn case (line_of (slice_get case.study.faults f)) (at k)
    stands k below = primary_stands case f (at k) (filter_passes (is_primary case.study case.currents f) (relay_numbers case.study) k 0 below)
