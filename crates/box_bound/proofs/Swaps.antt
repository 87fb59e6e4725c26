-- Sums over the relays, and over what is theirs: the same sum, whichever is summed first.
use Rattle.std.specs.Prelude.{◌==◌, if◌then◌else◌, slice_get, ℤ, pos, ◌+ℤ◌, ◌-ℤ◌, ◌≤ℤ◌}
use Rattle.std.specs.List.{sum_by, All}
use Rattle.std.proofs.Common.{◌≡◌, ◌≢◌, ℕ, zero, suc, ◌+◌, ◌*◌, ◌<◌, ◌≤◌, List, [], ◌∷◌, length, Some, arith, refl, sym, ap, ◌∙◌, inl, inr, subst}
use Rattle.std.proofs.lemmas.Bool.{cases_eq}
use Rattle.std.proofs.lemmas.Int.{ints}
use Rattle.std.proofs.lemmas.List.Elements.{All-head, All-tail}
use Rattle.std.proofs.lemmas.List.Sums.{sum_by-cons}
use Rattle.margin_rows.proofs.Summed.{chosen, not_chosen}
use Rattle.box_bound.specs.DualValue.{total}

-- the sum of n values from a on
abbrev pub between : (ℕ → ℕ) → ℕ → ℕ → ℕ
between f a zero = 0
between f a (suc n) = f a + between f (suc a) n

-- a sum of sums
between_split : (r p q : ℕ → ℕ) (a n : ℕ) → ((i : ℕ) → r i ≡ p i + q i) → between r a n ≡ between p a n + between q a n
between_split r p q a zero each = refl
between_split r p q a (suc n) each =
    let here = each a in
    let others = between_split r p q (suc a) n each in
    omega (arith, here, others)

-- a sum of multiples
between_scale : (k : ℕ) (p : ℕ → ℕ) (a n : ℕ) → between (λ i. k * p i) a n ≡ k * between p a n
between_scale k p a zero = omega arith
between_scale k p a (suc n) = let others = between_scale k p (suc a) n in omega (arith, others)

pub between_mixed : (k : ℕ) (d t p : ℕ → ℕ) (n : ℕ) → between (λ i. d i * (k * t i + p i)) 0 n ≡ k * between (λ i. d i * t i) 0 n + between (λ i. d i * p i) 0 n
between_mixed k d t p n =
    between_split (λ i. d i * (k * t i + p i)) (λ i. k * (d i * t i)) (λ i. d i * p i) 0 n (λ i. plain k (d i) (t i) (p i))
    ∙ ap (λ (m : ℕ). m + between (λ i. d i * p i) 0 n) (between_scale k (λ i. d i * t i) 0 n)
  where
    plain : (k d t p : ℕ) → d * (k * t + p) ≡ k * (d * t) + d * p
    plain k d t p = omega arith

-- what counts for one number alone
its : (k i d v : ℕ) → k ≡ i → d * (if k == i then v else 0) ≡ d * v
its k i d v same = ap (λ (n : ℕ). d * n) (chosen k i v same)

others_none : (k i d v : ℕ) → k ≢ i → d * (if k == i then v else 0) ≡ 0
others_none k i d v apart = ap (λ (n : ℕ). d * n) (not_chosen k i v apart) ∙ omega arith

module _ (d : ℕ → ℕ) (k : ℕ) (v : ℕ → ℕ) where
  past_none : (a n : ℕ) → k < a → between (λ i. d i * (if k == i then v i else 0)) a n ≡ 0
  past_none a zero past = refl
  past_none a (suc n) past =
      let here = others_none k a (d a) (v a) (λ same. omega (arith, same, past)) in
      let others = past_none (suc a) n (omega (arith, past)) in
      omega (arith, here, others)

  only_one : (a n : ℕ) → a ≤ k → k < a + n → between (λ i. d i * (if k == i then v i else 0)) a n ≡ d k * v k
  only_one a zero from before = absurd (omega (arith, from, before))
  only_one a (suc n) from before = elim (cases_eq k a) [
    | inl same ↦
        let here : d a * (if k == a then v a else 0) ≡ d k * v k = its k a (d a) (v a) same ∙ ap (λ (i : ℕ). d i * v i) (sym same) in
        let others = past_none (suc a) n (omega (arith, same)) in
        omega (arith, here, others)
    | inr apart ↦
        let here = others_none k a (d a) (v a) apart in
        let others = only_one (suc a) n (omega (arith, from, apart)) (omega (arith, before)) in
        omega (arith, here, others)
  ]

-- over the relays what is theirs, or over all of it what its relay makes of it
pub swap : {X : Type 0} (d : ℕ → ℕ) (key : X → ℕ) (f : X → ℕ → ℕ) (n : ℕ) (xs : List X) → All (λ x. key x < n) xs
    → between (λ i. d i * sum_by (λ x. if key x == i then f x i else 0) xs) 0 n ≡ sum_by (λ x. d (key x) * f x (key x)) xs
swap d key f n [] within = none 0 n
  where
    none : (a n : ℕ) → between (λ i. d i * 0) a n ≡ 0
    none a zero = refl
    none a (suc n) = let others = none (suc a) n in omega (arith, others)
swap d key f n (x ∷ xs) within =
    let P = λ (w : _). key w < n in
    let here = only_one d (key x) (f x) 0 n (omega arith) (omega (arith, All-head P x xs within)) in
    let others = swap d key f n xs (All-tail P x xs within) in
    between_split (λ i. d i * sum_by (λ w. if key w == i then f w i else 0) (x ∷ xs)) (λ i. d i * (if key x == i then f x i else 0)) (λ i. d i * sum_by (λ w. if key w == i then f w i else 0) xs) 0 n
    (λ i. parts (d i) (if key x == i then f x i else 0) (sum_by (λ w. if key w == i then f w i else 0) xs) _ (sum_by-cons (λ w. if key w == i then f w i else 0) x xs))
    ∙ joined _ _ _ _ _ here others (sum_by-cons (λ w. d (key w) * f w (key w)) x xs)
  where
    parts : (d a b s : ℕ) → s ≡ a + b → d * s ≡ d * a + d * b
    parts d a b s is = rw is (omega arith)

    joined : (p q a b s : ℕ) → p ≡ a → q ≡ b → s ≡ a + b → p + q ≡ s
    joined p q a b s first second whole = omega (arith, first, second, whole)

-- numbers that are at most gains less losses add up to at most the gains less the losses
pub total_le : (zs : List ℤ) (g l : ℕ → ℕ) (a : ℕ) → ((k : ℕ) (z : ℤ) → slice_get zs k ≡ Some z → z ≤ℤ (pos (g (a + k)) -ℤ pos (l (a + k))))
    → total zs ≤ℤ (pos (between g a (length zs)) -ℤ pos (between l a (length zs)))
total_le [] g l a each = omega (arith, ints)
total_le (z ∷ zs) g l a each =
    let here : z ≤ℤ (pos (g a) -ℤ pos (l a)) = subst (λ (n : ℕ). z ≤ℤ (pos (g n) -ℤ pos (l n))) (omega arith) (each 0 z refl) in
    let others = total_le zs g l (suc a) (λ k y found. subst (λ (n : ℕ). y ≤ℤ (pos (g n) -ℤ pos (l n))) (omega arith) (each (suc k) y found)) in
    plain z (total zs) (g a) (l a) (between g (suc a) (length zs)) (between l (suc a) (length zs)) here others
  where
    plain : (z t : ℤ) (g l gs ls : ℕ) → z ≤ℤ (pos g -ℤ pos l) → t ≤ℤ (pos gs -ℤ pos ls) → (z +ℤ t) ≤ℤ (pos (g + gs) -ℤ pos (l + ls))
    plain z t g l gs ls a b = omega (arith, ints, a, b)

-- numbers that are at least gains add up to at least the gains
pub total_ge : (zs : List ℤ) (g : ℕ → ℕ) (a : ℕ) → ((k : ℕ) (z : ℤ) → slice_get zs k ≡ Some z → pos (g (a + k)) ≤ℤ z) → pos (between g a (length zs)) ≤ℤ total zs
total_ge [] g a each = omega (arith, ints)
total_ge (z ∷ zs) g a each =
    let here : pos (g a) ≤ℤ z = subst (λ (n : ℕ). pos (g n) ≤ℤ z) (omega arith) (each 0 z refl) in
    let others = total_ge zs g (suc a) (λ k y found. subst (λ (n : ℕ). pos (g n) ≤ℤ y) (omega arith) (each (suc k) y found)) in
    plain z (total zs) (g a) (between g (suc a) (length zs)) here others
  where
    plain : (z t : ℤ) (g gs : ℕ) → pos g ≤ℤ z → pos gs ≤ℤ t → pos (g + gs) ≤ℤ (z +ℤ t)
    plain z t g gs a b = omega (arith, ints, a, b)
