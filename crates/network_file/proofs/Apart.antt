-- An element with two numbers that none of those before it has together: a relay at an end that is free, and an
-- interval of a pair that has none.
use Rattle.std.specs.Prelude.{◌&&◌, ◌==◌}
use Rattle.std.specs.List.{AllPairs, list_any}
use Rattle.std.proofs.Common.{◌≡◌, ℕ, ◌<◌, true, false, List, [], ◌∷◌, ◌++◌, length, get_or, All, arith, sym, ◌∙◌, inl, inr, true≢false}
use Rattle.std.proofs.lemmas.Bool.{cases_Bool}
use Rattle.std.proofs.lemmas.Bool.Decides.{nat_tests}
use Rattle.std.proofs.lemmas.List.Folds.{list_any_at, list_any_none}
use Rattle.std.proofs.lemmas.List.Quantifiers.{all_pairs_push}
use Rattle.coord_model.specs.Limits.{StandTogether}
use Rattle.coord_model.specs.declared.study.PairInterval.{PairInterval}
use Rattle.coord_model.specs.declared.study.Relay.{Relay}
use Rattle.network_file.specs.Numbered.{is_taken}
use Rattle.network_file.specs.Pairs.{has_interval}
use Rattle.network_file.specs.Rules.{AreOfOnePair}

both_are : (a b x y : ℕ) → a ≡ x → b ≡ y → ((a == x) && (b == y)) ≡ true
both_are a b x y one other = grind (arith, nat_tests, one, other)

are_both : (a b x y : ℕ) → ((a == x) && (b == y)) ≡ true → (a ≡ x) × (b ≡ y)
are_both a b x y h = (grind (arith, nat_tests), grind (arith, nat_tests))

module _ {A : Type 0} (f g : A → ℕ) (items : List A) (x y : ℕ) where
  -- none has both numbers
  none_has : list_any (λ a. (f a == x) && (g a == y)) items ≡ false → (k : ℕ) (d : A) → k < length items
      → f (get_or items k d) ≡ x → g (get_or items k d) ≡ y → ⊥
  none_has none k d within one other =
      let a = get_or items k d in
      true≢false (sym (list_any_at (λ a. (f a == x) && (g a == y)) items k d within (both_are (f a) (g a) x y one other)) ∙ none)

  has_none : ((k : ℕ) (d : A) → k < length items → f (get_or items k d) ≡ x → g (get_or items k d) ≡ y → ⊥)
      → list_any (λ a. (f a == x) && (g a == y)) items ≡ false
  has_none apart =
      list_any_none (λ a. (f a == x) && (g a == y)) items (λ k d within.
      let a = get_or items k d in
      elim (cases_Bool ((f a == x) && (g a == y))) [
        | inl both ↦
            let parts = are_both (f a) (g a) x y both in
            absurd (apart k d within parts.0 parts.1)
        | inr other ↦ other
      ])

abbrev line_of : Relay → ℕ
line_of relay = relay.line

abbrev bus_of : Relay → ℕ
bus_of relay = relay.bus

pub stands_apart : (relays : List Relay) (relay : Relay) → AllPairs (λ one other. ¬ (StandTogether one other)) relays
    → is_taken relays relay.line relay.bus ≡ false → AllPairs (λ one other. ¬ (StandTogether one other)) (relays ++ relay ∷ [])
stands_apart relays relay apart free =
    all_pairs_push (λ one other. ¬ (StandTogether one other)) relays relay apart
    (λ k d within together. none_has line_of bus_of relays relay.line relay.bus free k d within together.line together.bus)

-- no relay before stands where one does that stands apart
pub free_end : (before : List Relay) (relay : Relay) → All (λ other. ¬ (StandTogether other relay)) before
    → is_taken before relay.line relay.bus ≡ false
free_end before relay apart =
    has_none line_of bus_of before relay.line relay.bus (λ k d within line bus.
    apart k d within (record { line = line; bus = bus }))

abbrev backup_of : PairInterval → ℕ
backup_of own = own.backup

abbrev primary_of : PairInterval → ℕ
primary_of own = own.primary

-- an interval of a pair that has none before is apart from those before
pub first_of_pair : (before : List PairInterval) (own : PairInterval) → has_interval before own.backup own.primary ≡ false
    → All (λ other. ¬ (AreOfOnePair other own)) before
first_of_pair before own none k d within one =
    none_has backup_of primary_of before own.backup own.primary none k d within one.backup one.primary

-- and the other way round
pub free_pair : (before : List PairInterval) (own : PairInterval) → All (λ other. ¬ (AreOfOnePair other own)) before
    → has_interval before own.backup own.primary ≡ false
free_pair before own apart =
    has_none backup_of primary_of before own.backup own.primary (λ k d within backup primary.
    apart k d within (record { backup = backup; primary = primary }))
