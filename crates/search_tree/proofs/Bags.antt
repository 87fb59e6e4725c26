-- Lists with the same members, each as often: what holds of all of one, and what is in one.
use Rattle.std.proofs.Common.{◌≡◌, ℕ, ◌==◌, false, true, Bool, List, [], ◌∷◌, refl, arith, sym, ◌∙◌, ⊎_elim, inl, inr}
use Rattle.std.specs.Prelude.{All, Contains, if◌then◌else◌, nat_lt, nat_le, ◌&&◌, ◌||◌, not, ◌⊎◌, suc}
use Rattle.std.specs.List.{sum_by}
use Rattle.std.proofs.lemmas.List.Elements.{All-nil, All-cons, All-head, All-tail, All-contains}
use Rattle.std.proofs.lemmas.List.Sums.{sum_by-cons}
use Rattle.std.proofs.lemmas.Bool.{cases_Bool}
use Rattle.std.proofs.lemmas.Grind.{common_steps}
use Rattle.search_tree.specs.Arena.{SameMembers}
use Rattle.search_tree.specs.Steps.{ComesBy}

module _ {X : Type 0} (test : X → Bool) where
  -- 1 for each member that fails the test
  abbrev failing : X → ℕ
  failing x = if test x then 0 else 1

  none_fails : (xs : List X) → All (λ x. test x ≡ true) xs → sum_by failing xs ≡ 0
  none_fails [] h = refl
  none_fails (x ∷ xs) h =
      let e = sum_by-cons failing x xs in
      let p = All-head (λ y. test y ≡ true) x xs h in
      let r = none_fails xs (All-tail (λ y. test y ≡ true) x xs h) in
      grind (arith, common_steps)

  all_pass : (xs : List X) → sum_by failing xs ≡ 0 → All (λ x. test x ≡ true) xs
  all_pass [] h = All-nil (λ y. test y ≡ true)
  all_pass (x ∷ xs) h =
      let e = sum_by-cons failing x xs in
      All-cons (λ y. test y ≡ true) x xs (grind (arith, common_steps)) (all_pass xs (omega arith))

  -- what all members of one pass, all members of the other pass
  pub same_pass : (xs ys : List X) → SameMembers xs ys → All (λ x. test x ≡ true) xs → All (λ x. test x ≡ true) ys
  same_pass xs ys same h = all_pass ys (sym (same failing) ∙ none_fails xs h)

-- whether an entry comes no later than another
abbrev comes : ℕ × ℕ → ℕ × ℕ → Bool
comes e x = nat_lt e.0 x.0 || ((e.0 == x.0) && nat_le e.1 x.1)

comes_true : (e x : ℕ × ℕ) → ComesBy e x → comes e x ≡ true
comes_true e x h = let a = h.0 in let b = h.1 in grind (arith, common_steps)

come_by : (e x : ℕ × ℕ) → comes e x ≡ true → ComesBy e x
come_by e x h = (grind (arith, common_steps), λ q. grind (arith, common_steps))

-- an entry that comes no later than all members of one comes no later than all of the other
pub same_come : (e : ℕ × ℕ) (xs ys : List (ℕ × ℕ)) → SameMembers xs ys → All (ComesBy e) xs → All (ComesBy e) ys
same_come e xs ys same h k d l = come_by e _ (same_pass (comes e) xs ys same (λ i x m. comes_true e _ (h i x m)) k d l)

-- whether two entries differ
abbrev differ : ℕ × ℕ → ℕ × ℕ → Bool
differ e x = not ((e.0 == x.0) && (e.1 == x.1))

same_entry : (e x : ℕ × ℕ) → differ e x ≡ false → x ≡ e
same_entry (a, b) (m, n) h =
    let p : m ≡ a = grind (arith, common_steps) in
    let q : n ≡ b = grind (arith, common_steps) in
    rw (p, q) refl

listed_or_not : (e : ℕ × ℕ) (ys : List (ℕ × ℕ)) → Contains ys e ⊎ All (λ x. differ e x ≡ true) ys
listed_or_not e [] = inr (All-nil (λ x. differ e x ≡ true))
listed_or_not e (y ∷ ys) = by_first (cases_Bool (differ e y)) (listed_or_not e ys)
  where
    by_first : (differ e y ≡ true) ⊎ (differ e y ≡ false) → Contains ys e ⊎ All (λ x. differ e x ≡ true) ys → Contains (y ∷ ys) e ⊎ All (λ x. differ e x ≡ true) (y ∷ ys)
    by_first (inr same) rest = inl (0, omega arith, same_entry e y same)
    by_first (inl other) (inl c) = inl (suc c.0, (let l = c.1 in omega arith), c.2)
    by_first (inl other) (inr all) = inr (All-cons (λ x. differ e x ≡ true) y ys other all)

-- a member of one is a member of the other
pub same_listed : (e : ℕ × ℕ) (xs ys : List (ℕ × ℕ)) → SameMembers xs ys → Contains xs e → Contains ys e
same_listed e xs ys same h =
    ⊎_elim (λ c. c)
    (λ all. let d = All-contains (λ x. differ e x ≡ true) xs e (same_pass (differ e) ys xs (λ f. sym (same f)) all) h in absurd (grind (arith, common_steps)))
    (listed_or_not e ys)
