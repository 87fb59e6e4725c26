-- Lists made by going through the numbers from 0.
use Rattle.std.proofs.Common.{◌≡◌, ℕ, ◌+◌, Bool, true, false, cond, List, [], ◌∷◌, ◌++◌, map, arith, refl, ap, ◌∙◌}
use Rattle.std.proofs.lemmas.List.{append_assoc, append-nil, map-append, map-id}
use Rattle.std.proofs.lemmas.List.Concat.{flat_map-append}
use Rattle.std.proofs.lemmas.List.Elements.{filter-append}
use Rattle.std.proofs.lemmas.List.FromFn.{map-range_with_len_more}
use Rattle.std.specs.List.{range_with_len, filter, flat_map}

-- one number more
pub numbers_more : (n : ℕ) → range_with_len 0 (n + 1) ≡ range_with_len 0 n ++ n ∷ []
numbers_more n =
    let whole = map-range_with_len_more (λ (k : ℕ). k) 0 n n (omega arith) in
    rw (map-id, map-id) at whole

-- one number more, kept where it passes
pub kept_more : {X : Type 0} (p : ℕ → Bool) (f : ℕ → X) (n : ℕ) → map f (filter p (range_with_len 0 (n + 1))) ≡ map f (filter p (range_with_len 0 n)) ++ cond (p n) (f n ∷ []) []
kept_more {X} p f n =
    rw numbers_more (rw filter-append (rw map-append (elim (p n) as (λ b. map f (filter p (range_with_len 0 n)) ++ map f (cond b (n ∷ []) []) ≡ map f (filter p (range_with_len 0 n)) ++ cond b (f n ∷ []) []) [ true ↦ refl | false ↦ refl ])))

-- one piece more
pub pieces_more : {X : Type 0} (f : ℕ → List X) (n : ℕ) → flat_map f (range_with_len 0 (n + 1)) ≡ flat_map f (range_with_len 0 n) ++ f n
pieces_more f n = rw numbers_more (rw flat_map-append (ap (λ (t : List _). flat_map f (range_with_len 0 n) ++ t) (append-nil (f n))))

-- the list of what is kept so far, as one number is tried: it passes, or it does not
pub kept_yes : {X : Type 0} (p : ℕ → Bool) (f : ℕ → X) (n : ℕ) (old base new : List X) → base ≡ old ++ map f (filter p (range_with_len 0 n)) → p n ≡ true
    → new ≡ base ++ f n ∷ [] → new ≡ old ++ map f (filter p (range_with_len 0 (n + 1)))
kept_yes p f n old base new so_far passes pushed =
    rw (kept_more p f n, passes) (pushed ∙ ap (λ (t : List _). t ++ f n ∷ []) so_far ∙ append_assoc old (map f (filter p (range_with_len 0 n))) (f n ∷ []))

pub kept_no : {X : Type 0} (p : ℕ → Bool) (f : ℕ → X) (n : ℕ) (old base new : List X) → base ≡ old ++ map f (filter p (range_with_len 0 n)) → p n ≡ false
    → new ≡ base → new ≡ old ++ map f (filter p (range_with_len 0 (n + 1)))
kept_no p f n old base new so_far fails same =
    rw (kept_more p f n, fails, append-nil) (same ∙ so_far)

-- the joined pieces so far, and one piece more
pub piece_yes : {X : Type 0} (f : ℕ → List X) (n : ℕ) (base new : List X) → base ≡ flat_map f (range_with_len 0 n) → new ≡ base ++ f n → new ≡ flat_map f (range_with_len 0 (n + 1))
piece_yes f n base new so_far pushed = rw pieces_more (pushed ∙ ap (λ (t : List _). t ++ f n) so_far)

-- a list of what each number gives so far, and one number more
pub mapped_yes : {X : Type 0} (f : ℕ → X) (n : ℕ) (old base new : List X) → base ≡ old ++ map f (range_with_len 0 n) → new ≡ base ++ f n ∷ [] → new ≡ old ++ map f (range_with_len 0 (n + 1))
mapped_yes f n old base new so_far pushed =
    rw (map-range_with_len_more f 0 n n (omega arith)) (pushed ∙ ap (λ (t : List _). t ++ f n ∷ []) so_far ∙ append_assoc old (map f (range_with_len 0 n)) (f n ∷ []))
