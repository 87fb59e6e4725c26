-- What the 50th power keeps of what its products keep.
use Rattle.std.proofs.Common.{ℕ, ◌+◌, ◌*◌, ◌<◌, ◌≤◌, ◌^◌, arith}
use Rattle.std.proofs.lemmas.Nat.{mul-le, pow-add}
use Rattle.std.proofs.Math.Nat.{le_of_mul-le-mul_right, pow-suc, pow-zero}
use Rattle.root_interval.specs.Product.{one, mul_down, mul_up}
use Rattle.root_interval.specs.Power.{pow50, pow50_down, pow50_up}
use Rattle.root_interval.proofs.ProductLaws.{mul_down-bounds, mul_up-bounds, mul_down-le, mul_up-le, one_le_mul_up, stays_apart}

-- a relation that holds at the exponent 1, and that the products keep, holds at the exponent 50
pow50-keeps : (R : ℕ → ℕ → ℕ → Type 0) (p q : ℕ → ℕ → ℕ) → ((j k a b c d : ℕ) → R j a c → R k b d → R (j + k) (p a b) (q c d)) → (r s : ℕ) → R 1 r s → R 50 (pow50 p r) (pow50 q s)
unfolding pow50
pow50-keeps R p q keep r s h1 =
    let h2 = keep 1 1 _ _ _ _ h1 h1 in
    let h4 = keep 2 2 _ _ _ _ h2 h2 in
    let h8 = keep 4 4 _ _ _ _ h4 h4 in
    let h16 = keep 8 8 _ _ _ _ h8 h8 in
    let h32 = keep 16 16 _ _ _ _ h16 h16 in
    let h48 = keep 32 16 _ _ _ _ h32 h16 in
    keep 48 2 _ _ _ _ h48 h2

pub pow50_down-le : (r s : ℕ) → r ≤ s → pow50_down r ≤ pow50_down s
pow50_down-le = pow50-keeps (λ _ a b. a ≤ b) mul_down mul_down (λ _ _ a b c d. mul_down-le a b c d)

pub pow50_up-le : (r s : ℕ) → r ≤ s → pow50_up r ≤ pow50_up s
pow50_up-le = pow50-keeps (λ _ a b. a ≤ b) mul_up mul_up (λ _ _ a b c d. mul_up-le a b c d)

-- the power of a greater number, rounded down, is not below the power rounded up
pub pow50_up-le-pow50_down : (r s : ℕ) → one ≤ r → r < s → pow50_up r ≤ pow50_down s
pow50_up-le-pow50_down r s above less =
    let kept : (one ≤ pow50_up r) × (pow50_up r + 1 ≤ pow50_down s) =
    pow50-keeps (λ _ a b. (one ≤ a) × (a + 1 ≤ b)) mul_up mul_down
    (λ _ _ a b c d p q. (one_le_mul_up a b p.0 q.0, stays_apart 1 a b c d (omega arith) p.0 q.0 p.1 q.1))
    r s (above, omega arith)
    in omega arith

-- u stands for one, and v and w for its powers: two powers that are at least x and y have a product that is at least x * y
product_above : (u v w x y a b p : ℕ) → 0 < u → x * u ≤ a * v → y * u ≤ b * w → a * b ≤ p * u → x * y * u ≤ p * (v * w)
product_above u v w x y a b p some left right over =
    le_of_mul-le-mul_right {k = u} (omega (arith, mul-le (x * u) (y * u) (a * v) (b * w) left right, mul-le (a * b) (v * w) (p * u) (v * w) over (omega arith))) some

product_below : (u v w x y a b p : ℕ) → 0 < u → a * v ≤ x * u → b * w ≤ y * u → p * u ≤ a * b → p * (v * w) ≤ x * y * u
product_below u v w x y a b p some left right under =
    le_of_mul-le-mul_right {k = u} (omega (arith, mul-le (a * v) (b * w) (x * u) (y * u) left right, mul-le (p * u) (v * w) (a * b) (v * w) under (omega arith))) some

-- the power of r is at most the power rounded up, in units of one to the 50th
pub pow50_up-above : (r : ℕ) → r ^ 50 * one ≤ pow50_up r * one ^ 50
pow50_up-above r =
    pow50-keeps (λ k a _. r ^ k * one ≤ a * one ^ k) mul_up mul_up
    (λ j k a b _ _ p q. rw (pow-add r j k, pow-add one j k) (product_above one (one ^ j) (one ^ k) (r ^ j) (r ^ k) a b (mul_up a b) (omega arith) p q ((mul_up-bounds a b).0)))
    r r (rw (pow-suc r 0, pow-zero r) (omega arith))

-- the power rounded down is at most the power of r, in units of one to the 50th
pub pow50_down-below : (r : ℕ) → pow50_down r * one ^ 50 ≤ r ^ 50 * one
pow50_down-below r =
    pow50-keeps (λ k a _. a * one ^ k ≤ r ^ k * one) mul_down mul_down
    (λ j k a b _ _ p q. rw (pow-add r j k, pow-add one j k) (product_below one (one ^ j) (one ^ k) (r ^ j) (r ^ k) a b (mul_down a b) (omega arith) p q ((mul_down-bounds a b).0)))
    r r (rw (pow-suc r 0, pow-zero r) (omega arith))
