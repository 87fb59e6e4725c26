-- Rows that are listed in their order are distinct.
use Rattle.std.proofs.Common.{◌≡◌, ◌<◌, ◌+◌, ◌^◌, ◌==◌, ℕ, ℤ, false, List, [], ◌∷◌, ◌++◌, map, arith, refl, All}
use Rattle.std.specs.Cmp.{IsEquivalence}
use Rattle.std.specs.Int.RustNames.{unsigned_abs}
use Rattle.std.specs.List.{IsDistinct, list_any}
use Rattle.std.proofs.lemmas.Bool.{eq-eqb, eqb-true}
use Rattle.std.proofs.lemmas.Bool.Decides.{nat_tests}
use Rattle.std.proofs.lemmas.List.{map-append}
use Rattle.std.proofs.lemmas.List.Elements.{All-push, All-head, All-tail, All-nil}
use Rattle.std.proofs.lemmas.Map.Keys.{IsDistinct-push}

-- the rows are below a number, differ, and have weights that fit
pub record AreListed (n : ℕ) (rows : List (ℕ × ℤ)) : Type 0 where
  pub below : All (λ r. r.0 < n) rows
  pub fit : All (λ r. unsigned_abs r.1 < 2 ^ 126) rows
  pub distinct : IsDistinct ◌==◌ (map (λ r. r.0) rows)

equal_laws : IsEquivalence {K = ℕ} ◌==◌
equal_laws = record {
  refl = λ x. eq-eqb x x refl;
  symm = λ x y. grind (arith, nat_tests);
  congr = λ x y z e. rw (eqb-true x y e) refl;
}

none_equal : (n : ℕ) (rows : List (ℕ × ℤ)) → All (λ r. r.0 < n) rows → list_any (λ y. n == y) (map (λ r. r.0) rows) ≡ false
none_equal n [] h = refl
none_equal n (r ∷ rows) h =
    let here : r.0 < n = All-head (λ r. r.0 < n) r rows h in
    let rest : list_any (λ y. n == y) (map (λ r. r.0) rows) ≡ false = none_equal n rows (All-tail (λ r. r.0 < n) r rows h) in
    grind (arith, nat_tests)

-- one more row
pub listed_push : (n : ℕ) (rows : List (ℕ × ℤ)) (v : ℤ) → unsigned_abs v < 2 ^ 126 → AreListed n rows → AreListed (n + 1) (rows ++ (n, v) ∷ [])
listed_push n rows v fits listed =
    let below : All (λ r. r.0 < n + 1) rows = λ k d h. (let b = listed.below k d h in omega arith) in
    record {
      below = All-push (λ r. r.0 < n + 1) rows (n, v) below (omega arith);
      fit = All-push (λ r. unsigned_abs r.1 < 2 ^ 126) rows (n, v) listed.fit fits;
      distinct = rw map-append (IsDistinct-push equal_laws (map (λ r. r.0) rows) n listed.distinct (none_equal n rows listed.below));
    }

pub listed_none : AreListed 0 []
unfolding IsDistinct
listed_none = record { below = All-nil (λ r. r.0 < 0); fit = All-nil (λ r. unsigned_abs r.1 < 2 ^ 126); distinct = tt }
