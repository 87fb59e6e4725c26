-- A fact for each place of a list that grows at its end.
use Rattle.std.specs.Prelude.{slice_get}
use Rattle.std.specs.Option.{IsSomeAnd}
use Rattle.std.proofs.Common.{◌≡◌, ℕ, ◌+◌, ◌<◌, List, [], ◌∷◌, ◌++◌, length, Some, None, Option, arith, refl, sym, ap, ◌∙◌, inl, inr, subst}
use Rattle.std.proofs.lemmas.Bool.{cases_eq}
use Rattle.std.proofs.lemmas.List.{get_or_append_left, get_or_push, length_push}
use Rattle.std.proofs.lemmas.Option.{slice_get-get_or, slice_get_within, get_or_from_slice_get}

-- what a value holds of which a fact is known
pub some_and : {X : Type 0} (o : Option X) (P : X → Type 0) → IsSomeAnd o P → (x : X) × (o ≡ Some x) × P x
some_and None P fact = absurd fact
some_and (Some x) P fact = (x, refl, fact)

-- a fact of the value
pub and_some : {X : Type 0} (o : Option X) (P : X → Type 0) (x : X) → o ≡ Some x → P x → IsSomeAnd o P
and_some o P x is fact = rw is fact

-- one place more
pub each_push : {X : Type 0} (P : ℕ → X → Type 0) (xs ys : List X) (x : X) (n : ℕ) → length xs ≡ n → ys ≡ xs ++ x ∷ [] → ((i : ℕ) → i < n → IsSomeAnd (slice_get xs i) (P i)) → P n x
    → (i : ℕ) → i < n + 1 → IsSomeAnd (slice_get ys i) (P i)
each_push P xs ys x n count is each here i below =
    elim (cases_eq i n) [
      | inl same ↦ and_some (slice_get ys i) (P i) x (rw is (slice_get-get_or (xs ++ x ∷ []) i x (omega (arith, same, count, length_push xs x)) ∙ ap Some (get_or_push xs x x i (count ∙ sym same)))) (let Q : ℕ → Type 0 = λ k. P k x in subst Q (sym same) here)
      | inr apart ↦
          let found = some_and (slice_get xs i) (P i) (each i (omega (arith, below, apart))) in
          let within = slice_get_within xs i found.0 found.1 in
          and_some (slice_get ys i) (P i) found.0 (rw is (slice_get-get_or (xs ++ x ∷ []) i found.0 (omega (arith, within, length_push xs x)) ∙ ap Some (get_or_append_left xs (x ∷ []) found.0 i within ∙ get_or_from_slice_get xs i found.0 found.0 found.1))) found.2
    ]
