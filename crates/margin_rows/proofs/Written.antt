-- A list with another value at one place or one more at its end, and what is read at a place.
use Rattle.std.specs.Prelude.{slice_get, IfSome, IsSomeAnd}
use Rattle.std.proofs.Common.{◌≡◌, ◌<◌, ℕ, suc, zero, List, [], ◌∷◌, ◌++◌, length, replicate, set, get_or, Some, arith, sym, refl, ap, ◌∙◌, subst, inl, inr}
use Rattle.std.proofs.lemmas.Bool.{cases_lt}
use Rattle.std.proofs.lemmas.List.{get_or-replicate, length-replicate, get_or_past}
use Rattle.std.proofs.lemmas.Option.{get_or_from_slice_get, slice_get-get_or}
use Rattle.margin_rows.proofs.Places.{some_and}

-- a fact of each place, and one place more
pub each_more : {X : Type 0} (P : ℕ → X → Type 0) (xs : List X) (x : X) → ((i : ℕ) → IfSome (slice_get xs i) (P i)) → P (length xs) x → (i : ℕ) → IfSome (slice_get (xs ++ x ∷ []) i) (P i)
each_more P [] x each here zero = here
each_more P [] x each here (suc i) = tt
each_more P (y ∷ xs) x each here zero = each zero
each_more P (y ∷ xs) x each here (suc i) = each_more (λ k. P (suc k)) xs x (λ k. each (suc k)) here i

-- a fact of each place, with another value at one
pub each_put : {X : Type 0} (P : ℕ → X → Type 0) (xs : List X) (at : ℕ) (y : X) → ((i : ℕ) → IfSome (slice_get xs i) (P i)) → P at y → (i : ℕ) → IfSome (slice_get (set xs at y) i) (P i)
each_put P [] at y each here i = tt
each_put P (x ∷ xs) zero y each here zero = here
each_put P (x ∷ xs) zero y each here (suc i) = each (suc i)
each_put P (x ∷ xs) (suc at) y each here zero = each zero
each_put P (x ∷ xs) (suc at) y each here (suc i) = each_put (λ k. P (suc k)) xs at y (λ k. each (suc k)) here i

-- the value that was put
pub put_found : {X : Type 0} (xs : List X) (at : ℕ) (x y : X) → slice_get xs at ≡ Some x → slice_get (set xs at y) at ≡ Some y
put_found [] at x y found = absurd cc
put_found (z ∷ xs) zero x y found = refl
put_found (z ∷ xs) (suc at) x y found = put_found xs at x y found

-- the value that the code reads at a place
pub read_there : {X : Type 0} (xs ys : List X) (i j : ℕ) (x : X) (P : X → Type 0) → ys ≡ xs → j ≡ i → x ≡ get_or ys j x → IsSomeAnd (slice_get xs i) P → (slice_get xs i ≡ Some x) × P x
read_there {X} xs ys i j x P same is read fact =
    let found = some_and (slice_get xs i) P fact in
    let here : found.0 ≡ x = sym (read ∙ ap (λ (k : ℕ). get_or ys k x) is ∙ ap (λ (zs : List X). get_or zs i x) same ∙ get_or_from_slice_get xs i found.0 x found.1) in
    (found.1 ∙ ap Some here, subst P here found.2)

pub found_at : {X : Type 0} (xs ys : List X) (i j : ℕ) (x : X) → ys ≡ xs → j ≡ i → i < length xs → x ≡ get_or ys j x → slice_get xs i ≡ Some x
found_at {X} xs ys i j x same is below read =
    slice_get-get_or xs i x below ∙ ap Some (ap (λ (zs : List X). get_or zs i x) (sym same) ∙ ap (λ (k : ℕ). get_or ys k x) (sym is) ∙ sym read)

-- there is a value at a place within the list
pub in_list : {X : Type 0} (xs : List X) (i : ℕ) → i < length xs → (x : X) × (slice_get xs i ≡ Some x)
in_list [] i below = absurd (omega (arith, below))
in_list (x ∷ xs) zero below = (x, refl)
in_list (x ∷ xs) (suc i) below = in_list xs i (omega (arith, below))

-- a list of zeros
pub zeros_at : (n i : ℕ) → let zeros : List ℕ = replicate n 0 in get_or zeros i 0 ≡ 0
zeros_at n i = elim (cases_lt i n) [ inl below ↦ get_or-replicate {A = ℕ} n i 0 0 below | inr past ↦ get_or_past {X = ℕ} (replicate n 0) i 0 (omega (arith, past, length-replicate {A = ℕ} n 0)) ]
