-- The least parts of a box for the cost alone, worked out relay by relay and mended.
use Rattle.std.specs.Prelude.{slice_get, ℤ, ◌+ℤ◌}
use Rattle.std.specs.List.{All}
use Rattle.std.specs.Option.{IsSomeAnd}
use Rattle.std.proofs.Common.{◌≡◌, ◌≢◌, ℕ, ◌+◌, ◌<◌, ◌≤◌, List, [], ◌∷◌, ◌++◌, length, get_or, set, take, Some, arith, sym, ap, ◌∙◌, inl, inr, subst}
use Rattle.std.proofs.lemmas.Bool.{cases_eq}
use Rattle.std.proofs.lemmas.Int.{ints}
use Rattle.std.proofs.lemmas.List.{length_push, take_more, length-set, get_or-set_same, get_or-set_other}
use Rattle.std.proofs.lemmas.Option.{slice_get-get_or, get_or_from_slice_get}
use Rattle.margin_rows.specs.Box.{Box}
use Rattle.margin_rows.specs.Case.{Case, FitsCase}
use Rattle.margin_rows.proofs.Places.{some_and, and_some, each_push}
use mir.Syntax.{w128}
use mir.Val.{SFits}
use Rattle.box_bound.specs.DualValue.{total}
use Rattle.box_bound.specs.RelayParts.{IsLeastPart, dials_of, pickups_of}
use Rattle.box_bound.specs.Standing.{AreSmall, HasSameSpans, IsSmall, StandFor}
use Rattle.box_bound.proofs.Totals.{total_push}

-- a fact of what is found at each place is one of all
pub all_found : {X : Type 0} (P : X → Type 0) (xs : List X) → ((i : ℕ) → i < length xs → IsSomeAnd (slice_get xs i) P) → All P xs
all_found P xs each i d below =
    let found = some_and (slice_get xs i) P (each i below) in
    subst P (sym (get_or_from_slice_get xs i found.0 d found.1)) found.2

-- a fact of each place, with another element at one
set_found : {X : Type 0} (P : ℕ → X → Type 0) (xs ys : List X) (r i : ℕ) (x : X) → ys ≡ set xs r x → r < length xs → i < length xs → P r x
    → (i ≢ r → IsSomeAnd (slice_get xs i) (P i)) → IsSomeAnd (slice_get ys i) (P i)
set_found P xs ys r i x is place below here there =
    elim (cases_eq i r) [
      | inl same ↦
          let Q : ℕ → Type 0 = λ k. P k x in
          and_some (slice_get ys i) (P i) x (rw is (slice_get-get_or (set xs r x) i x (omega (arith, length-set xs r x, below)) ∙ ap Some (ap (λ (k : ℕ). get_or (set xs r x) k x) same ∙ get_or-set_same xs r x x place))) (subst Q (sym same) here)
      | inr apart ↦
          let found = some_and (slice_get xs i) (P i) (there apart) in
          and_some (slice_get ys i) (P i) found.0 (rw is (slice_get-get_or (set xs r x) i found.0 (omega (arith, length-set xs r x, below)) ∙ ap Some (get_or-set_other xs r i x found.0 apart ∙ get_or_from_slice_get xs i found.0 found.0 found.1))) found.2
    ]

-- the number is the least part of relay i in the box
abbrev pub IsLeast : Case → Box → ℕ → ℤ → Type 0
IsLeast case box i = IsLeastPart case 1 [] i (pickups_of box i) (dials_of box i)

-- the numbers are those of one box for the first relays, and those of the other box for the rest
pub record AreMended (case : Case) (before after : Box) (n : ℕ) (parts : List ℤ) : Type 0 where
  pub count : length parts ≡ length case.study.relays
  pub done : (i : ℕ) → i < n → i < length parts → IsSomeAnd (slice_get parts i) (IsLeast case after i)
  pub rest : (i : ℕ) → n ≤ i → i < length parts → IsSomeAnd (slice_get parts i) (IsLeast case before i)
  pub small : (i : ℕ) → i < length parts → IsSomeAnd (slice_get parts i) IsSmall

module _ (case : Case) (before after : Box) (n : ℕ) (parts later : List ℤ) where
  -- the next relay's part was worked out
  pub mended_more : (place : ℕ) (part : ℤ) → later ≡ set parts place part → place ≡ n → n < length case.study.relays → IsLeast case after n part → IsSmall part
      → AreMended case before after n parts → AreMended case before after (n + 1) later
  mended_more place part is same below least small so_far =
      let at : later ≡ set parts n part = is ∙ ap (λ (k : ℕ). set parts k part) same in
      let inside : n < length parts = omega (arith, below, so_far.count) in
      let long : length later ≡ length parts = ap (λ (xs : List ℤ). length xs) at ∙ length-set parts n part in
      record {
        count = long ∙ so_far.count;
        done = λ i first within. set_found (λ k. IsLeast case after k) parts later n i part at inside (omega (arith, within, long)) least (λ apart. so_far.done i (omega (arith, first, apart)) (omega (arith, within, long)));
        rest = λ i last within. and_later i last within (so_far.rest i (omega (arith, last)) (omega (arith, within, long))) at;
        small = λ i within. set_found (λ k. IsSmall) parts later n i part at inside (omega (arith, within, long)) small (λ apart. so_far.small i (omega (arith, within, long)));
      }
    where
      and_later : (i : ℕ) → n + 1 ≤ i → i < length later → IsSomeAnd (slice_get parts i) (IsLeast case before i) → later ≡ set parts n part → IsSomeAnd (slice_get later i) (IsLeast case before i)
      and_later i last within there at =
          let found = some_and (slice_get parts i) (IsLeast case before i) there in
          and_some (slice_get later i) (IsLeast case before i) found.0 (rw at (slice_get-get_or (set parts n part) i found.0 (rw at at within) ∙ ap Some (get_or-set_other parts n i part found.0 (λ same. absurd (omega (arith, last, same))) ∙ get_or_from_slice_get parts i found.0 found.0 found.1))) found.2

  -- or it is the same in both boxes
  pub same_more : later ≡ parts → HasSameSpans before after n → AreMended case before after n parts → AreMended case before after (n + 1) later
  same_more is same so_far = rw is (record {
    count = so_far.count;
    done = λ i first within. elim (cases_eq i n) [
      | inl here ↦ moved i here (so_far.rest i (omega (arith, here)) within)
      | inr apart ↦ so_far.done i (omega (arith, first, apart)) within
    ];
    rest = λ i last within. so_far.rest i (omega (arith, last)) within;
    small = so_far.small;
  })
    where
      moved : (i : ℕ) → i ≡ n → IsSomeAnd (slice_get parts i) (IsLeast case before i) → IsSomeAnd (slice_get parts i) (IsLeast case after i)
      moved i here there =
          let found = some_and (slice_get parts i) (IsLeast case before i) there in
          let spans : HasSameSpans before after i = rw here same in
          and_some (slice_get parts i) (IsLeast case after i) found.0 found.1 (rw (sym spans.pickups, sym spans.dials) found.2)

-- all relays are done
pub mended_stand : (case : Case) (before after : Box) (n : ℕ) (parts : List ℤ) → length case.study.relays ≤ n → AreMended case before after n parts → StandFor case after parts
mended_stand case before after n parts all mended = record { count = mended.count; each = λ i below. mended.done i (omega (arith, below, all)) (omega (arith, below, mended.count)) }

pub mended_small : (case : Case) (before after : Box) (n : ℕ) (parts : List ℤ) → FitsCase case → AreMended case before after n parts → AreSmall parts
mended_small case before after n parts limits mended = record { few = omega (arith, mended.count, limits.study.relay_count); small = all_found IsSmall parts mended.small }

-- a small number fits 128 bits
pub small_fits : (z : ℤ) → IsSmall z → SFits w128 z
small_fits z small =
    let low = small.not_low in
    let high = small.not_high in
    search (arith, ints)

-- one number more in a sum
pub total_more : (parts : List ℤ) (i : ℕ) (d sum : ℤ) → i < length parts → sum ≡ total (take i parts) → sum +ℤ get_or parts i d ≡ total (take (i + 1) parts)
total_more parts i d sum below so_far = rw so_far (sym (ap total (take_more parts i d below) ∙ total_push (take i parts) (get_or parts i d)))

-- the numbers are the least parts of the first n relays
pub record AreFirstParts (case : Case) (box : Box) (n : ℕ) (parts : List ℤ) : Type 0 where
  pub count : length parts ≡ n
  pub each : (i : ℕ) → i < n → IsSomeAnd (slice_get parts i) (IsLeast case box i)
  pub small : (i : ℕ) → i < n → IsSomeAnd (slice_get parts i) IsSmall

module _ (case : Case) (box : Box) where
  pub first_more : (n : ℕ) (parts later : List ℤ) (part : ℤ) → later ≡ parts ++ part ∷ [] → IsLeast case box n part → IsSmall part → AreFirstParts case box n parts → AreFirstParts case box (n + 1) later
  first_more n parts later part is least small so_far = record {
    count = omega (arith, ap (λ (xs : List ℤ). length xs) is, length_push parts part, so_far.count);
    each = each_push (IsLeast case box) parts later part n so_far.count is so_far.each least;
    small = each_push (λ i. IsSmall) parts later part n so_far.count is so_far.small small;
  }

  -- the parts of all relays stand for the box
  pub first_stand : (n : ℕ) (parts : List ℤ) → n ≡ length case.study.relays → AreFirstParts case box n parts → StandFor case box parts
  first_stand n parts all first = record { count = first.count ∙ all; each = λ i below. first.each i (omega (arith, below, all)) }

  pub few_small : (n : ℕ) (parts : List ℤ) → n ≤ 96 → AreFirstParts case box n parts → AreSmall parts
  few_small n parts few first = record { few = omega (arith, first.count, few); small = all_found IsSmall parts (λ i below. first.small i (omega (arith, below, first.count))) }
