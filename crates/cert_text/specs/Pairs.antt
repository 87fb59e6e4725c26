-- Words of two numbers within limits (ours).
use Rattle.std.specs.Prelude.{ℕ, ◌≤◌, List}
use Rattle.std.specs.List.{AllByRecursion}
use Rattle.coord_model.specs.declared.weights.Weight.{Weight}

-- the first numbers and the second numbers of the words have these limits
abbrev pub AreWithin : ℕ → ℕ → List Weight → Type 0
AreWithin first second = AllByRecursion (λ w. (w.row ≤ first) × (w.weight ≤ second))
