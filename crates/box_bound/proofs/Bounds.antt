-- The bound of a greater value is no less.
use Rattle.std.specs.Prelude.{ℤ, pos, negsuc, ◌≤ℤ◌}
use Rattle.std.proofs.Common.{ℕ, ◌*◌, ◌/◌, ◌≤◌, arith}
use Rattle.std.proofs.lemmas.Int.{ints}
use Rattle.std.proofs.lemmas.Nat.{le-div}
use Rattle.std.proofs.Math.Nat.{div-mul-le_self}
use Rattle.box_bound.specs.LowerBound.{bound_at}

pub bound_rises : (a b : ℤ) (lambda : ℕ) → 1 ≤ lambda → a ≤ℤ b → bound_at a lambda ≤ bound_at b lambda
bound_rises (pos a) (pos b) lambda some under =
    let few : a ≤ b = omega (arith, ints, under) in
    let falls : a / (lambda * 1000000) ≤ b / (lambda * 1000000) = le-div (a / (lambda * 1000000)) b (lambda * 1000000) (omega (arith, some)) (omega (arith, few, div-mul-le_self a (lambda * 1000000))) in
    omega (arith, falls)
bound_rises (pos a) (negsuc b) lambda some under = absurd (omega (arith, ints, under))
bound_rises (negsuc a) b lambda some under = omega arith
