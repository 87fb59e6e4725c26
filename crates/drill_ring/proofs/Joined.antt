-- What is in a list that is made by going through numbers, from one on.
use Rattle.std.proofs.Common.{◌≡◌, ℕ, ◌+◌, ◌*◌, ◌<◌, ◌≤◌, List, map, length, zero, suc, arith}
use Rattle.std.proofs.Math.Nat.{mul-suc}
use Rattle.std.proofs.lemmas.List.{length-append}
use Rattle.std.proofs.lemmas.List.Elements.{All-nil, All-cons, All-append}
use Rattle.std.proofs.lemmas.List.Sums.{sum_by-append}
use Rattle.std.specs.List.{range_with_len, flat_map, sum_by, All}

-- each of the numbers gives an element with a property
pub all_mapped : {X : Type 0} (P : X → Type 0) (f : ℕ → X) (a n : ℕ) → ((k : ℕ) → a ≤ k → k < a + n → P (f k)) → All P (map f (range_with_len a n))
all_mapped P f a zero each = All-nil P
all_mapped P f a (suc n) each =
    All-cons P (f a) (map f (range_with_len (a + 1) n)) (each a (omega arith) (omega arith))
    (all_mapped P f (a + 1) n (λ k above below. each k (omega (arith, above)) (omega (arith, below))))

-- each of the numbers gives a piece whose elements have a property
pub all_joined : {X : Type 0} (P : X → Type 0) (f : ℕ → List X) (a n : ℕ) → ((k : ℕ) → a ≤ k → k < a + n → All P (f k)) → All P (flat_map f (range_with_len a n))
all_joined P f a zero each = All-nil P
all_joined P f a (suc n) each =
    All-append P (f a) (flat_map f (range_with_len (a + 1) n)) (each a (omega arith) (omega arith))
    (all_joined P f (a + 1) n (λ k above below. each k (omega (arith, above)) (omega (arith, below))))

-- the sum over pieces that have the same sum
pub sum_joined : {X : Type 0} (g : X → ℕ) (f : ℕ → List X) (c a n : ℕ) → ((k : ℕ) → sum_by g (f k) ≡ c) → sum_by g (flat_map f (range_with_len a n)) ≡ c * n
sum_joined g f c a zero each = omega arith
sum_joined g f c a (suc n) each =
    omega (arith, sum_by-append g (f a) (flat_map f (range_with_len (a + 1) n)), each a, sum_joined g f c (a + 1) n each, mul-suc c n)

-- the length of joined pieces of one length
pub length_joined : {X : Type 0} (f : ℕ → List X) (c a n : ℕ) → ((k : ℕ) → length (f k) ≡ c) → length (flat_map f (range_with_len a n)) ≡ c * n
length_joined f c a zero each = omega arith
length_joined f c a (suc n) each =
    omega (arith, length-append (f a) (flat_map f (range_with_len (a + 1) n)), each a, length_joined f c (a + 1) n each, mul-suc c n)
