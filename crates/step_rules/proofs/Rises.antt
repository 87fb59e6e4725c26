-- Weights in the rising order of their rows.
use Rattle.std.specs.Prelude.{slice_index}
use Rattle.std.specs.List.Sorted.{IsStrictlyIncreasing}
use Rattle.std.proofs.Common.{◌≡◌, ℕ, ◌+◌, ◌-◌, ◌<◌, ◌≤◌, List, length, map, get_or, inl, inr, arith}
use Rattle.std.proofs.lemmas.Bool.{cases_lt}
use Rattle.std.proofs.lemmas.List.{get_or-map, length-map}
use Rattle.coord_model.specs.declared.weights.Weight.{Weight}

abbrev rows_of : List Weight → List ℕ
rows_of weights = map (λ (w : Weight). w.row) weights

row_read : (weights : List Weight) (i : ℕ) (d : Weight) → i < length weights → slice_index (rows_of weights) i ≡ (get_or weights i d).row
row_read weights i d below = get_or-map (λ (w : Weight). w.row) weights i d 0 below

-- where a row does not rise they are not
pub not_rising : (weights : List Weight) (next : ℕ) (d : Weight) → 1 ≤ next → next < length weights → (get_or weights next d).row ≤ (get_or weights (next - 1) d).row
    → ¬ (IsStrictlyIncreasing (rows_of weights))
not_rising weights next d some below no_more rising =
    let at : next - 1 + 1 ≡ next = omega (arith, some) in
    let here = rising (next - 1) (omega (arith, below, some, length-map weights (λ (w : Weight). w.row))) in
    let high : slice_index (rows_of weights) (next - 1 + 1) ≡ (get_or weights next d).row = rw at (row_read weights next d below) in
    omega (arith, here, high, row_read weights (next - 1) d (omega (arith, below)), no_more)

-- where it does, one more does
pub one_more_rises : (weights : List Weight) (next : ℕ) (d : Weight) → 1 ≤ next → next < length weights → (get_or weights (next - 1) d).row < (get_or weights next d).row
    → ((k : ℕ) → k + 1 < next → slice_index (rows_of weights) k < slice_index (rows_of weights) (k + 1))
    → (k : ℕ) → k + 1 < next + 1 → slice_index (rows_of weights) k < slice_index (rows_of weights) (k + 1)
one_more_rises weights next d some below more before k under = elim (cases_lt (k + 1) next) [
  | inl earlier ↦ before k earlier
  | inr past ↦
      let last : k ≡ next - 1 = omega (arith, past, under, some) in
      let at : next - 1 + 1 ≡ next = omega (arith, some) in
      let low : slice_index (rows_of weights) k ≡ (get_or weights (next - 1) d).row = rw last (row_read weights (next - 1) d (omega (arith, below))) in
      let high : slice_index (rows_of weights) (k + 1) ≡ (get_or weights next d).row = rw (last, at) (row_read weights next d below) in
      omega (arith, more, low, high)
]
