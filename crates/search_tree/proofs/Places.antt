-- A table after one slot was written and others were put at its end.
use Rattle.std.proofs.Common.{◌≡◌, ℕ, ◌<◌, ◌+◌, List, [], ◌∷◌, ◌++◌, length, refl, arith, ap, set}
use Rattle.std.specs.Prelude.{zero, suc, ◌≢◌}
use Rattle.std.specs.List.{slice_get}
use Rattle.std.specs.declared.option.Option.TheVariants.{Some}
use Rattle.std.proofs.lemmas.Option.{slice_get_within}

module _ {X : Type 0} where
  pub kept_at : (xs : List X) (n k : ℕ) (y : X) → k ≢ n → slice_get (set xs n y) k ≡ slice_get xs k
  kept_at [] n k y d = refl
  kept_at (x ∷ xs) zero zero y d = absurd (d refl)
  kept_at (x ∷ xs) zero (suc k) y d = refl
  kept_at (x ∷ xs) (suc n) zero y d = refl
  kept_at (x ∷ xs) (suc n) (suc k) y d = kept_at xs n k y (λ e. d (ap suc e))

  pub written_at : (xs : List X) (n : ℕ) (y : X) → n < length xs → slice_get (set xs n y) n ≡ Some y
  written_at [] n y l = absurd (omega arith)
  written_at (x ∷ xs) zero y l = refl
  written_at (x ∷ xs) (suc n) y l = written_at xs n y (omega arith)

  pub front_at : (xs ys : List X) (k : ℕ) (z : X) → slice_get xs k ≡ Some z → slice_get (xs ++ ys) k ≡ Some z
  front_at [] ys k z e = let w = slice_get_within [] k z e in absurd (omega arith)
  front_at (x ∷ xs) ys zero z e = e
  front_at (x ∷ xs) ys (suc k) z e = front_at xs ys k z e

  pub back_at : (xs ys : List X) (j k : ℕ) → j ≡ length xs + k → slice_get (xs ++ ys) j ≡ slice_get ys k
  back_at [] ys j k e = ap (slice_get ys) (omega arith)
  back_at (x ∷ xs) ys zero k e = absurd (omega arith)
  back_at (x ∷ xs) ys (suc j) k e = back_at xs ys j k (omega arith)
