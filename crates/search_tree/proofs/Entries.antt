-- What the heap's order says of bounds and numbers.
use Rattle.std.proofs.Common.{◌≡◌, ℕ, ◌<◌, false, List, [], ◌∷◌, length, ◌+◌, arith, ap, ◌∙◌, sym}
use Rattle.std.specs.Prelude.{All, Contains, map, slice_index_or}
use Rattle.std.specs.List.{sum_by}
use Rattle.std.specs.List.Sorted.{IsPermutation}
use Rattle.std.proofs.lemmas.List.Sorted.{sum_by-IsPermutation, IsPermutation-map, length_permutation}
use Rattle.std.proofs.lemmas.List.Sums.{sum_by-cons}
use Rattle.std.specs.BinaryHeap.{IsUpperBound}
use Rattle.std.specs.Ordering.{nat_cmp, ordering_then, is_lt}
use Rattle.std.specs.declared.cmp.Ordering.{Ordering}
use Rattle.std.specs.declared.cmp.Reverse.{Reverse}
use Rattle.std.proofs.lemmas.List.Elements.{All-nil, All-cons}
use Rattle.std.proofs.lemmas.Grind.{common_steps}
use Rattle.search_tree.specs.Steps.{ComesBy, IsFirstOf}

-- the heap's order: the greatest entry is the one that comes first
abbrev pub heap_cmp : Reverse (ℕ × ℕ) → Reverse (ℕ × ℕ) → Ordering
heap_cmp x y = ordering_then (nat_cmp y.0.0 x.0.0) (nat_cmp y.0.1 x.0.1)

-- an entry that is not less in the heap's order comes no later
comes_by : (a b m n : ℕ) → is_lt (ordering_then (nat_cmp b a) (nat_cmp n m)) ≡ false → ComesBy (a, m) (b, n)
comes_by a b m n h = grind (arith, common_steps)

pub all_come_by : (x : Reverse (ℕ × ℕ)) (xs : List (Reverse (ℕ × ℕ))) → IsUpperBound heap_cmp x xs → All (ComesBy x.0) (map (λ e. e.0) xs)
all_come_by x [] h = All-nil (ComesBy x.0)
all_come_by x (y ∷ ys) h = All-cons (ComesBy x.0) y.0 _ (comes_by x.0.0 y.0.0 x.0.1 y.0.1 h.0) (all_come_by x ys h.1)

-- the entry at the front of a list is one of it
pub front_listed : (x : Reverse (ℕ × ℕ)) (xs : List (Reverse (ℕ × ℕ))) → 0 < length xs → x ≡ slice_index_or xs 0 x → Contains (map (λ e. e.0) xs) x.0
front_listed x [] h e = absurd (omega (arith, h))
front_listed x (y ∷ ys) h e = (0, omega arith, sym (ap (λ r. r.0) e))

-- the entry that the heap shows comes first
pub first_of : (x : Reverse (ℕ × ℕ)) (xs : List (Reverse (ℕ × ℕ))) → 0 < length xs → x ≡ slice_index_or xs 0 x → IsUpperBound heap_cmp x xs → IsFirstOf (map (λ e. e.0) xs) x.0
first_of x xs some e upper = record { listed = front_listed x xs some e; least = all_come_by x xs upper }

-- what a sum over the entries loses with the one that is taken
pub sum_taken : (x : Reverse (ℕ × ℕ)) (xs ys : List (Reverse (ℕ × ℕ))) → IsPermutation xs (x ∷ ys) → (f : ℕ × ℕ → ℕ) → sum_by f (map (λ e. e.0) xs) ≡ f x.0 + sum_by f (map (λ e. e.0) ys)
sum_taken x xs ys p f =
    let e = sum_by-IsPermutation f _ _ (IsPermutation-map (λ e. e.0) xs (x ∷ ys) p) in
    sym e ∙ sum_by-cons f x.0 (map (λ e. e.0) ys)

-- what a sum over the entries gains with the one that is put
pub sum_put : (x : Reverse (ℕ × ℕ)) (xs ys : List (Reverse (ℕ × ℕ))) → IsPermutation (x ∷ xs) ys → (f : ℕ × ℕ → ℕ) → sum_by f (map (λ e. e.0) ys) ≡ f x.0 + sum_by f (map (λ e. e.0) xs)
sum_put x xs ys p f =
    let e = sum_by-IsPermutation f _ _ (IsPermutation-map (λ e. e.0) (x ∷ xs) ys p) in
    e ∙ sum_by-cons f x.0 (map (λ e. e.0) xs)

-- a list that holds one more than another is not empty
pub some_taken : {X : Type 0} (x : X) (xs ys : List X) → IsPermutation xs (x ∷ ys) → 0 < length xs
some_taken x xs ys p = let e = length_permutation xs (x ∷ ys) p in omega arith

-- two entries in the place of the first
pub sum_exchanged : (f : ℕ × ℕ → ℕ) (x low high : Reverse (ℕ × ℕ)) (old rest more new : List (Reverse (ℕ × ℕ)))
    → IsPermutation old (x ∷ rest) → IsPermutation (low ∷ rest) more → IsPermutation (high ∷ more) new
    → f low.0 + f high.0 + sum_by f (map (λ e. e.0) old) ≡ f x.0 + sum_by f (map (λ e. e.0) new)
sum_exchanged f x low high old rest more new p q r =
    let a = sum_taken x old rest p f in
    let b = sum_put low rest more q f in
    let d = sum_put high more new r f in
    omega arith
