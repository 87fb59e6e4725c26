-- A list in the order of ranks: a weight's place is how many rank before it.
use Rattle.std.proofs.Common.{◌≡◌, ◌≢◌, ◌<◌, ◌==◌, ℕ, zero, suc, Bool, true, false, cond, List, [], ◌∷◌, length, get_or, take, map, arith, refl, sym, ◌∙◌, ap, Contains, ◌↔◌, get_or-take, length-take, subst}
use Rattle.std.specs.Cmp.{IsStrictWeakOrder}
use Rattle.std.specs.List.{AllPairs, IsDistinct, count_by}
use Rattle.std.specs.List.Sorted.{IsSortedBy, IsPermutation, IsNonDecreasing, IsNonDecreasingBy, IsStrictlyIncreasing}
use Rattle.std.proofs.lemmas.Bool.Decides.{nat_tests, Decides-eqb}
use Rattle.std.proofs.lemmas.List.Sorted.{sorted_far, IsPermutation-sym, IsPermutation-map, Contains-permutation, sum_by-IsPermutation}
use Rattle.std.proofs.lemmas.List.{get_or-map, length-map, take-map}
use Rattle.std.proofs.lemmas.List.Sums.{sum_by-cons}
use Rattle.std.proofs.lemmas.Map.Keys.{IsDistinct-IsPermutation, IsStrictlyIncreasing-from_distinct}
use Rattle.std.proofs.lemmas.Map.Made.{AllPairs-from_IsDistinct, IsDistinct-from_AllPairs}
use Rattle.coord_model.specs.declared.weights.Weight.{Weight}
use Rattle.dual_round.specs.Kept.{ranks_before, Stays}

-- ranks are an order
pub ranks_order : IsStrictWeakOrder ranks_before
ranks_order = record { one_way = λ v w h. grind (arith, nat_tests); chain = λ u v w h k. grind (arith, nat_tests) }

-- of two rows one ranks before the other
pub one_ranks_before : (v w : Weight) → v.row ≢ w.row → ranks_before w v ≡ false → ranks_before v w ≡ true
one_ranks_before v w apart after = grind (arith, nat_tests)

-- where no element passes, the count is 0
count_none : {X : Type 0} (p : X → Bool) (xs : List X) → ((k : ℕ) (d : X) → k < length xs → p (get_or xs k d) ≡ false) → count_by p xs ≡ 0
count_none p [] none = refl
count_none p (x ∷ xs) none =
    let here : p x ≡ false = none 0 x (omega arith) in
    let rest : count_by p xs ≡ 0 = count_none p xs (λ k d h. none (suc k) d (omega arith)) in
    sum_by-cons (λ y. cond (p y) 1 0) x xs ∙ rw here (omega arith)

-- the rank of a weight in a list by ranks is its place
pub rank_is_place : (ws : List Weight) → AllPairs (λ v w. ranks_before v w ≡ true) ws → (k : ℕ) (d : Weight) → k < length ws
    → count_by (λ v. ranks_before v (get_or ws k d)) ws ≡ k
rank_is_place [] up k d h = absurd (omega arith)
rank_is_place (w ∷ ws) up zero d h =
    let self : ranks_before w w ≡ false = grind (arith, nat_tests) in
    let rest : count_by (λ v. ranks_before v w) ws ≡ 0 =
    count_none (λ v. ranks_before v w) ws (λ k e l. ranks_order.one_way w (get_or ws k e) (up 0 (suc k) e (omega arith) (omega arith))) in
    sum_by-cons (λ v. cond (ranks_before v w) 1 0) w ws ∙ rw self (omega arith)
rank_is_place (w ∷ ws) up (suc k) d h =
    let front : ranks_before w (get_or ws k d) ≡ true = up 0 (suc k) d (omega arith) h in
    let rest : count_by (λ v. ranks_before v (get_or ws k d)) ws ≡ k = rank_is_place ws (λ i j e l m. up (suc i) (suc j) e (omega arith) (omega arith)) k d (omega arith) in
    sum_by-cons (λ v. cond (ranks_before v (get_or ws k d)) 1 0) w ws ∙ rw front (omega arith)

-- sorted by ranks, with rows that differ: each ranks before all later ones
pub ranked : (ws : List Weight) → IsSortedBy ranks_before ws → IsDistinct ◌==◌ (map (λ w. w.row) ws) → AllPairs (λ v w. ranks_before v w ≡ true) ws
ranked ws up apart i j d below within =
    let differ : AllPairs (λ x y. x ≢ y) (map (λ w. w.row) ws) = AllPairs-from_IsDistinct Decides-eqb (map (λ w. w.row) ws) apart in
    let rows : (get_or ws i d).row ≢ (get_or ws j d).row =
    rw (← get_or-map (λ (w : Weight). w.row) ws i d 0 (omega arith), ← get_or-map (λ (w : Weight). w.row) ws j d 0 (omega arith))
    (differ i j 0 below (rw length-map within)) in
    one_ranks_before (get_or ws i d) (get_or ws j d) rows (sorted_far ranks_before ranks_order ws up i j d (omega arith) within)

-- of a list by ranks the first m are just those that fewer than m rank before
pub front_is_kept : (m : ℕ) (ws : List Weight) → AllPairs (λ v w. ranks_before v w ≡ true) ws → (w : Weight)
    → Contains (take m ws) w ↔ (Contains ws w × (count_by (λ v. ranks_before v w) ws < m))
front_is_kept m ws up w = (into, back)
  where
    place : (k : ℕ) → k < length ws → get_or ws k w ≡ w → count_by (λ v. ranks_before v w) ws ≡ k
    place k within is =
        let e : count_by (λ v. ranks_before v (get_or ws k w)) ws ≡ k = rank_is_place ws up k w within in
        let P : Weight → Type 0 = λ x. count_by (λ v. ranks_before v x) ws ≡ k in
        subst P is e

    into : Contains (take m ws) w → Contains ws w × (count_by (λ v. ranks_before v w) ws < m)
    into (k, within, is) =
        let short : k < m = omega (arith, length-take m ws) in
        let long : k < length ws = omega (arith, length-take m ws) in
        let at : get_or ws k w ≡ w = sym (get_or-take m ws k w short) ∙ is in
        ((k, long, at), omega (arith, place k long at))

    back : Contains ws w × (count_by (λ v. ranks_before v w) ws < m) → Contains (take m ws) w
    back ((k, within, is), few) =
        let short : k < m = omega (arith, place k within is) in
        (k, omega (arith, length-take m ws), get_or-take m ws k w short ∙ is)

-- sorted by ranks, cut, and in any order again: those that stay
pub stays_through : (ws ranked front kept : List Weight) → IsPermutation ws ranked → AllPairs (λ v w. ranks_before v w ≡ true) ranked
    → front ≡ take 64 ranked → IsPermutation front kept → (w : Weight) → Contains kept w ↔ Stays ws w
stays_through ws ranked front kept moved up cut again w = (into, back)
  where
    same : count_by (λ v. ranks_before v w) ranked ≡ count_by (λ v. ranks_before v w) ws
    same = sum_by-IsPermutation (λ v. cond (ranks_before v w) 1 0) ws ranked moved

    into : Contains kept w → Stays ws w
    into h =
        let of_front : Contains front w = Contains-permutation kept front w (IsPermutation-sym front kept again) h in
        let of_ranked : Contains ranked w × (count_by (λ v. ranks_before v w) ranked < 64) =
        (front_is_kept 64 ranked up w).0 (rw cut at of_front) in
        (Contains-permutation ranked ws w (IsPermutation-sym ws ranked moved) of_ranked.0, omega (arith, same, of_ranked.1))

    back : Stays ws w → Contains kept w
    back h =
        let of_front : Contains (take 64 ranked) w =
        (front_is_kept 64 ranked up w).1 (Contains-permutation ws ranked w moved h.0, omega (arith, same, h.1)) in
        Contains-permutation front kept w again (rw cut of_front)

-- rows that differ stay so in another order
pub shuffled_rows : (xs ys : List Weight) → IsPermutation xs ys → IsDistinct ◌==◌ (map (λ w. w.row) xs) → IsDistinct ◌==◌ (map (λ w. w.row) ys)
shuffled_rows xs ys moved apart =
    IsDistinct-IsPermutation ◌==◌ (λ x y. grind (arith, nat_tests)) _ _ (IsPermutation-map (λ w. w.row) xs ys moved) apart

-- numbers that differ do so at the front
front_differs : (m : ℕ) (xs : List ℕ) → AllPairs (λ x y. x ≢ y) xs → AllPairs (λ x y. x ≢ y) (take m xs)
front_differs m xs apart i j d below within =
    let short : j < m = omega (arith, length-take m xs) in
    let long : j < length xs = omega (arith, length-take m xs) in
    rw (get_or-take m xs i d (omega arith), get_or-take m xs j d short) (apart i j d below long)

-- sorted by ranks, cut, and sorted by rows: the rows rise
pub rows_rise : (ws ranked front kept : List Weight) → IsDistinct ◌==◌ (map (λ w. w.row) ws) → IsPermutation ws ranked
    → front ≡ take 64 ranked → IsPermutation front kept → IsNonDecreasingBy (λ w. w.row) kept → IsStrictlyIncreasing (map (λ w. w.row) kept)
rows_rise ws ranked front kept apart moved cut again up =
    IsStrictlyIncreasing-from_distinct (map (λ w. w.row) kept) rise (shuffled_rows front kept again of_front)
  where
    of_ranked : AllPairs (λ x y. x ≢ y) (map (λ (w : Weight). w.row) ranked)
    of_ranked = AllPairs-from_IsDistinct Decides-eqb (map (λ w. w.row) ranked) (shuffled_rows ws ranked moved apart)

    of_front : IsDistinct ◌==◌ (map (λ (w : Weight). w.row) front)
    of_front =
        let taken : map (λ w. w.row) front ≡ take 64 (map (λ w. w.row) ranked) = ap (map (λ w. w.row)) cut ∙ sym (take-map (λ w. w.row) 64 ranked) in
        rw taken (IsDistinct-from_AllPairs Decides-eqb (take 64 (map (λ w. w.row) ranked)) (front_differs 64 (map (λ w. w.row) ranked) of_ranked))

    rise : IsNonDecreasing (map (λ (w : Weight). w.row) kept)
    rise i j d below within =
        let e : Weight = record { row = d; weight = 0 } in
        let long : j < length kept = omega (arith, length-map kept (λ (w : Weight). w.row)) in
        rw (get_or-map (λ (w : Weight). w.row) kept i e d (omega arith), get_or-map (λ (w : Weight). w.row) kept j e d long) (up i j e below long)
