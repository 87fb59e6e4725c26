use Rattle.std.proofs.Common.{◌≡◌, inl, inr, ℕ, zero, suc, ◌+◌, ◌<◌, ◌==◌, nat_le, true, false, Option, Some, None, is_some, List, [], ◌∷◌, ◌++◌, length, drop, map, get_or, refl, sym, ap, subst, arith}
use Rattle.std.specs.List.{range_with_len}
use Rattle.std.specs.Option.{option_map_or}
use Rattle.std.specs.Prelude.{codes, slice_get, slice_index, IfSome}
use Rattle.std.proofs.lemmas.Bool.Decides.{nat_tests}
use Rattle.std.proofs.lemmas.List.{append_cancel_left}
use Rattle.std.proofs.lemmas.Option.{slice_get_cases}
use Rattle.coord_model.specs.Allowed.{AreOnSteps, IsOnSteps}
use Rattle.coord_model.specs.Choice.{Settings}
use Rattle.coord_model.specs.Limits.{FitsStudy}
use Rattle.coord_model.specs.Name.{IsName}
use Rattle.coord_model.specs.StudyData.{StudyData}
use Rattle.coord_model.specs.declared.choice.Ending.{Ending}
use Rattle.coord_model.specs.declared.study.Relay.{Relay}
use Rattle.coord_text.specs.Claims.{IsShort, amount, ending_word}
use Rattle.coord_text.specs.Lines.{IsLine}
use Rattle.settings_sheet.specs.RelayStops.{HasNamesBelow}
use Rattle.coord_text.proofs.SameWords.{same_amount, same_ending}
use Rattle.settings_sheet.specs.SheetData.{IsSheet, SheetData}
use Rattle.settings_sheet.specs.SheetLines.{kind_at, relay_words, relay_words_at, settings_lines, sheet_lines, head_lines}
use Rattle.settings_sheet.specs.declared.refusal.SheetKind.TheVariants as due
use Rattle.settings_sheet.proofs.HeadStops.{relay_fits}
use Rattle.settings_sheet.proofs.Peeled.{AreFirst, AreLines}
use Rattle.settings_sheet.proofs.Spelled.{end_is_line, relay_is_line}

-- no byte is a line too
empty_is_line : IsLine []
empty_is_line = record { short = omega arith; printable = refl }

-- the line of a relay by its number
pub words_are_line : (study : StudyData) → FitsStudy study → (settings : Settings) (i : ℕ) → AreOnSteps study settings
    → IfSome (slice_get study.relays i) (λ relay. IsName relay.name) → IsLine (relay_words_at study settings i)
words_are_line study fits settings i on_steps name =
    let words = λ (o : Option Relay). option_map_or (λ r. relay_words r (slice_index settings.pickup i) (slice_index settings.dial i)) o [] in
    elim ((slice_get_cases study.relays i).1) [
      | inl found ↦
          let on = subst (λ o. IfSome o (λ r. IsOnSteps r (slice_index settings.pickup i) (slice_index settings.dial i))) found.2 (on_steps.steps i) in
          let named = subst (λ o. IfSome o (λ r. IsName r.name)) found.2 name in
          subst (λ o. IsLine (words o)) (sym found.2)
          (relay_is_line study found.0 (relay_fits study fits i found.0 found.1 found.3) named (slice_index settings.pickup i) (slice_index settings.dial i) on)
      | inr past ↦ subst (λ o. IsLine (words o)) (sym past.1) empty_is_line
    ]

-- the lines of a range are lines
pub lines_of_range : (f : ℕ → List ℕ) (a n : ℕ) → ((j : ℕ) → j < a + n → IsLine (f j)) → AreLines (map f (range_with_len a n))
lines_of_range f a zero each = tt
lines_of_range f a (suc n) each = (each a (omega arith), lines_of_range f (a + 1) n (λ j below. each j (omega arith)))

-- where all are lines, the first are
first_of_lines : (xs ys : List (List ℕ)) → AreLines ys → AreFirst xs ys
first_of_lines [] ys each = tt
first_of_lines (x ∷ xs) [] each = tt
first_of_lines (x ∷ xs) (y ∷ ys) each = (each.0, first_of_lines xs ys each.1)

-- the first of a range are lines, where its first elements and what follows it are
first_of_range : (f g : ℕ → List ℕ) (tail : List (List ℕ)) (a n m : ℕ) → ((j : ℕ) → j < a + n → IsLine (g j)) → AreLines tail
    → AreFirst (map f (range_with_len a n)) (map g (range_with_len a m) ++ tail)
first_of_range f g tail a zero m each last = tt
first_of_range f g tail a (suc n) zero each last = first_of_lines (map f (range_with_len a (suc n))) tail last
first_of_range f g tail a (suc n) (suc m) each last = (each a (omega arith), first_of_range f g tail (a + 1) n m (λ j below. each j (omega arith)) last)

-- and so are those of a sheet
pub first_of_settings : (study : StudyData) → FitsStudy study → (f : ℕ → List ℕ) (n : ℕ) → HasNamesBelow study n → (settings : Option Settings) → IfSome settings (AreOnSteps study)
    → AreFirst (map f (range_with_len 0 n)) (settings_lines study settings ++ codes "end" ∷ [])
first_of_settings study fits f n names None on_steps = first_of_lines (map f (range_with_len 0 n)) (codes "end" ∷ []) (end_is_line, tt)
first_of_settings study fits f n names (Some settings) on_steps =
    first_of_range f (relay_words_at study settings) (codes "end" ∷ []) 0 n (length study.relays)
    (λ j below. words_are_line study fits settings j on_steps (names j (omega arith))) (end_is_line, tt)

-- a sheet whose lines begin with those of a head has its values
pub record SameHead (study : StudyData) (other : SheetData) (ending : Ending) (cost bound : Option ℕ) (more : List (List ℕ)) : Type 0 where
  pub ending_is : other.ending ≡ ending
  pub cost_is : other.cost ≡ cost
  pub bound_is : other.bound ≡ bound
  pub tail : settings_lines study other.settings ++ codes "end" ∷ [] ≡ more

pub same_head : (study : StudyData) (other : SheetData) → IsSheet study other → (ending : Ending) (cost bound : Option ℕ) (more : List (List ℕ)) → IsShort cost → IsShort bound
    → sheet_lines study other ≡ head_lines ending cost bound ++ more → SameHead study other ending cost bound more
same_head study other is ending cost bound more cost_short bound_short parts = record {
  ending_is = same_ending other.ending ending (append_cancel_left (codes "ending ") (ending_word other.ending) (ending_word ending) (ap (λ l. get_or l 1 []) parts));
  cost_is = same_amount other.cost cost is.cost_short cost_short (append_cancel_left (codes "cost ") (amount other.cost) (amount cost) (ap (λ l. get_or l 2 []) parts));
  bound_is = same_amount other.bound bound is.bound_short bound_short (append_cancel_left (codes "bound ") (amount other.bound) (amount bound) (ap (λ l. get_or l 3 []) parts));
  tail = ap (drop 4) parts;
}

-- settings that are there
pub there : {A : Type 0} (o : Option A) → is_some o ≡ true → (x : A) × (o ≡ Some x)
there None some = absurd (cc)
there (Some x) some = (x, refl)

-- the line of a relay, where its place is
pub relay_due : (study : StudyData) (sheet : SheetData) (at : ℕ) → at < length (settings_lines study sheet.settings) → kind_at study sheet (at + 5) ≡ due.Relay
relay_due study sheet at within =
    let a : (at + 5 == 1) ≡ false = grind (arith, nat_tests) in
    let b : (at + 5 == 2) ≡ false = grind (arith, nat_tests) in
    let c : (at + 5 == 3) ≡ false = grind (arith, nat_tests) in
    let d : (at + 5 == 4) ≡ false = grind (arith, nat_tests) in
    let e : nat_le (at + 5) (4 + length (settings_lines study sheet.settings)) ≡ true = grind (arith, nat_tests) in
    rw (a, b, c, d, e) refl

pub end_due : (study : StudyData) (sheet : SheetData) (n : ℕ) → n ≡ length (settings_lines study sheet.settings) → kind_at study sheet (n + 5) ≡ due.End
end_due study sheet n is =
    let a : (n + 5 == 1) ≡ false = grind (arith, nat_tests) in
    let b : (n + 5 == 2) ≡ false = grind (arith, nat_tests) in
    let c : (n + 5 == 3) ≡ false = grind (arith, nat_tests) in
    let d : (n + 5 == 4) ≡ false = grind (arith, nat_tests) in
    let e : nat_le (n + 5) (4 + length (settings_lines study sheet.settings)) ≡ false = grind (arith, nat_tests) in
    let f : (n + 5 == 5 + length (settings_lines study sheet.settings)) ≡ true = grind (arith, nat_tests) in
    rw (a, b, c, d, e, f) refl

pub after_due : (study : StudyData) (sheet : SheetData) (n : ℕ) → n ≡ length (settings_lines study sheet.settings) → kind_at study sheet (n + 6) ≡ due.After
after_due study sheet n is =
    let a : (n + 6 == 1) ≡ false = grind (arith, nat_tests) in
    let b : (n + 6 == 2) ≡ false = grind (arith, nat_tests) in
    let c : (n + 6 == 3) ≡ false = grind (arith, nat_tests) in
    let d : (n + 6 == 4) ≡ false = grind (arith, nat_tests) in
    let e : nat_le (n + 6) (4 + length (settings_lines study sheet.settings)) ≡ false = grind (arith, nat_tests) in
    let f : (n + 6 == 5 + length (settings_lines study sheet.settings)) ≡ false = grind (arith, nat_tests) in
    rw (a, b, c, d, e, f) refl
