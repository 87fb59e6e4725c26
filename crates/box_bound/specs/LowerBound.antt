-- The bound of a dual value in whole weighted microseconds (ours).
use Rattle.std.specs.Prelude.{◌≡◌, ℕ, ◌-◌, ◌*◌, ◌/◌, ◌^◌, min, ℤ, pos, negsuc, []}
use Rattle.margin_rows.specs.Box.{Box}
use Rattle.margin_rows.specs.Case.{Case}
use Rattle.box_bound.specs.DualValue.{IsDualValue}

-- the value over lambda, rounded down, but at least 0, and at most the number that no choice costs
abbrev pub bound_at : ℤ → ℕ → ℕ
bound_at (pos n) lambda = min (n / (lambda * 1000000)) (10 ^ 16 - 1)
bound_at (negsuc n) lambda = 0

-- the plain bound: that of the dual value with lambda 1 and no weights
abbrev pub IsPlainBound : Case → Box → ℕ → Type 0
IsPlainBound case box bound =
    (value : ℤ) × IsDualValue case box 1 [] value × (bound ≡ bound_at value 1)
