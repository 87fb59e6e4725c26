-- Lists made by going through the numbers from 1.
use Rattle.std.proofs.Common.{◌≡◌, ℕ, ◌+◌, ◌-◌, ◌≤◌, List, [], ◌∷◌, ◌++◌, map, arith, ap, ◌∙◌}
use Rattle.std.proofs.lemmas.List.{append_assoc, append-nil, map-append, map-id}
use Rattle.std.proofs.lemmas.List.Concat.{flat_map-append}
use Rattle.std.proofs.lemmas.List.FromFn.{map-range_with_len_more}
use Rattle.std.specs.List.{range_with_len, flat_map}

-- one number more
numbers_more : (k : ℕ) → 1 ≤ k → range_with_len 1 (k + 1 - 1) ≡ range_with_len 1 (k - 1) ++ k ∷ []
numbers_more k above =
    let whole = map-range_with_len_more (λ (i : ℕ). i) 1 (k - 1) k (omega arith) in
    let counted : k + 1 - 1 ≡ k - 1 + 1 = omega arith in
    ap (range_with_len 1) counted ∙ rw (map-id, map-id) at whole

-- a list of what each number gives so far, and one number more
pub mapped_more : {X : Type 0} (f : ℕ → X) (k : ℕ) (base new : List X) → 1 ≤ k → base ≡ map f (range_with_len 1 (k - 1)) → new ≡ base ++ f k ∷ []
    → new ≡ map f (range_with_len 1 (k + 1 - 1))
mapped_more f k base new above so_far pushed =
    rw (numbers_more k above, map-append) (pushed ∙ ap (λ (t : List _). t ++ f k ∷ []) so_far)

-- the joined pieces so far, and one piece more
pub joined_more : {X : Type 0} (f : ℕ → List X) (k : ℕ) (base new : List X) → 1 ≤ k → base ≡ flat_map f (range_with_len 1 (k - 1)) → new ≡ base ++ f k
    → new ≡ flat_map f (range_with_len 1 (k + 1 - 1))
joined_more f k base new above so_far pushed =
    rw (numbers_more k above, flat_map-append, append-nil) (pushed ∙ ap (λ (t : List _). t ++ f k) so_far)

-- two pieces are added, one after the other
pub two_added : {X : Type 0} (base mid new x y x' y' : List X) → mid ≡ base ++ x → x ≡ x' → new ≡ mid ++ y → y ≡ y' → new ≡ base ++ (x' ++ y')
two_added base mid new x y x' y' first is_x second is_y = rw (second, first, is_x, is_y) (append_assoc base x' y')
