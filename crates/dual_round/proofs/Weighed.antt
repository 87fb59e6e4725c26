-- What the weights of the rows keep: their rows differ, and none is 0.
use Rattle.std.proofs.Common.{◌≡◌, ◌≢◌, ◌≤◌, ◌<◌, ◌==◌, ℕ, List, length, get_or, map, arith, sym, ◌∙◌, Contains, true, ℤ, pos}
use Rattle.std.specs.List.{AllPairs, IsDistinct}
use Rattle.std.proofs.lemmas.Bool.Decides.{nat_tests, Decides-eqb}
use Rattle.std.proofs.lemmas.List.{get_or-map, length-map}
use Rattle.std.proofs.lemmas.List.Elements.{All-contains, filter_passes}
use Rattle.std.proofs.lemmas.List.Kept.{AllPairs-filter}
use Rattle.std.proofs.lemmas.Map.Made.{AllPairs-from_IsDistinct, IsDistinct-from_AllPairs}
use Rattle.std.specs.Prelude.{nat_lt}
use Rattle.coord_model.specs.declared.weights.Weight.{Weight}
use Rattle.dual_round.specs.Scaled.{row_weight, weighed}

-- rows that differ still do so with their weights
pub weighed_apart : (places : ℕ) (rows : List (ℕ × ℤ)) → IsDistinct ◌==◌ (map (λ r. r.0) rows) → IsDistinct ◌==◌ (map (λ w. w.row) (weighed places rows))
weighed_apart places rows apart = IsDistinct-from_AllPairs Decides-eqb (map (λ w. w.row) (weighed places rows)) of_rows
  where
    of_all : AllPairs (λ v w. v.row ≢ w.row) (map (row_weight places) rows)
    of_all i j d below within =
        let none : ℕ × ℤ = (0, pos 0) in
        let long : j < length rows = omega (arith, length-map rows (row_weight places)) in
        let numbers : get_or (map (λ (r : ℕ × ℤ). r.0) rows) i 0 ≢ get_or (map (λ (r : ℕ × ℤ). r.0) rows) j 0 =
        AllPairs-from_IsDistinct Decides-eqb (map (λ r. r.0) rows) apart i j 0 below (rw length-map long) in
        let first = get_or-map (λ (r : ℕ × ℤ). r.0) rows i none 0 (omega arith) in
        let second = get_or-map (λ (r : ℕ × ℤ). r.0) rows j none 0 long in
        rw (get_or-map (row_weight places) rows i none d (omega arith), get_or-map (row_weight places) rows j none d long) (λ same. numbers (first ∙ same ∙ sym second))

    of_rows : AllPairs (λ x y. x ≢ y) (map (λ (w : Weight). w.row) (weighed places rows))
    of_rows i j d below within =
        let e : Weight = record { row = d; weight = 0 } in
        let long : j < length (weighed places rows) = omega (arith, length-map (weighed places rows) (λ (w : Weight). w.row)) in
        rw (get_or-map (λ (w : Weight). w.row) (weighed places rows) i e d (omega arith), get_or-map (λ (w : Weight). w.row) (weighed places rows) j e d long)
        (AllPairs-filter (λ v w. v.row ≢ w.row) (λ (w : Weight). nat_lt 0 w.weight) (map (row_weight places) rows) of_all i j e below long)

-- a weight of a row is at least 1
pub weighed_some : (places : ℕ) (rows : List (ℕ × ℤ)) (w : Weight) → Contains (weighed places rows) w → 1 ≤ w.weight
weighed_some places rows w has =
    let passes : nat_lt 0 w.weight ≡ true =
    All-contains (λ (v : Weight). nat_lt 0 v.weight ≡ true) (weighed places rows) w (filter_passes (λ (v : Weight). nat_lt 0 v.weight) (map (row_weight places) rows)) has in
    grind (arith, nat_tests)
