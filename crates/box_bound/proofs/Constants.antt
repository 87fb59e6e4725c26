-- The constants of rows as often as their weights say.
use Rattle.std.specs.Prelude.{ℤ, pos, negsuc, ◌+ℤ◌, ◌*ℤ◌, ◌≤ℤ◌}
use lib.IntN.{neg_ℤ}
use Rattle.std.proofs.Common.{◌≡◌, ℕ, suc, ◌+◌, ◌*◌, ◌^◌, ◌<◌, ◌≤◌, List, [], ◌∷◌, ◌++◌, length, map, get_or, take, arith, sym, ap, ◌∙◌}
use Rattle.std.proofs.lemmas.Int.{ints}
use Rattle.std.proofs.lemmas.List.{take_more}
use Rattle.std.proofs.lemmas.Nat.{mul-le}
use mir.Syntax.{w128}
use mir.Val.{SFits}
use Rattle.coord_model.specs.declared.weights.Weight.{Weight}
use Rattle.margin_rows.specs.Case.{Case}
use Rattle.box_bound.specs.DualValue.{total, weighted_constant}

-- how far a sum of n weighted constants lies from 0
pub record IsClose (n : ℕ) (z : ℤ) : Type 0 where
  pub not_low : pos 0 ≤ℤ (z +ℤ pos (n * 2 ^ 87))
  pub not_high : z ≤ℤ pos (n * 2 ^ 87)

pub close_fits : (n : ℕ) (z : ℤ) → n ≤ 64 → IsClose n z → SFits w128 z
close_fits n z few close =
    let low = close.not_low in
    let high = close.not_high in
    search (arith, ints)

pub close_more : (n : ℕ) (z one : ℤ) → IsClose n z → IsClose 1 one → IsClose (n + 1) (z +ℤ one)
close_more n z one close here = record {
  not_low = omega (arith, ints, close.not_low, here.not_low);
  not_high = omega (arith, ints, close.not_high, here.not_high);
}

-- a constant by a weight
pub constant_close : (w : ℕ) (z : ℤ) → w < 2 ^ 32 → pos 0 ≤ℤ (z +ℤ pos (2 * 10 ^ 16)) → z ≤ℤ pos (10 ^ 14) → IsClose 1 (pos w *ℤ z)
constant_close w (pos n) few not_low not_high = plain (w * n) (mul-le w n (2 ^ 32) (10 ^ 14) (omega (arith, few)) (omega (arith, ints, not_high)))
  where
    plain : (p : ℕ) → p ≤ 2 ^ 32 * 10 ^ 14 → IsClose 1 (pos p)
    plain p few = record { not_low = omega (arith, ints, few); not_high = omega (arith, ints, few) }
constant_close w (negsuc n) few not_low not_high = plain (w * suc n) (mul-le w (suc n) (2 ^ 32) (2 * 10 ^ 16) (omega (arith, few)) (omega (arith, ints, not_low)))
  where
    plain : (p : ℕ) → p ≤ 2 ^ 32 * (2 * 10 ^ 16) → IsClose 1 (neg_ℤ (pos p))
    plain p few = record { not_low = omega (arith, ints, few); not_high = omega (arith, ints, few) }

-- one weight more
total_map_push : (f : Weight → ℤ) (ws : List Weight) (w : Weight) → total (map f (ws ++ w ∷ [])) ≡ total (map f ws) +ℤ f w
total_map_push f [] w = omega (arith, ints)
total_map_push f (v ∷ ws) w = let others = total_map_push f ws w in omega (arith, ints, others)

pub constants_more : (case : Case) (ws : List Weight) (i : ℕ) (d : Weight) (sum one : ℤ) → i < length ws → sum ≡ total (map (weighted_constant case) (take i ws)) → one ≡ weighted_constant case (get_or ws i d)
    → sum +ℤ one ≡ total (map (weighted_constant case) (take (i + 1) ws))
constants_more case ws i d sum one below so_far is =
    rw (so_far, is) (sym (ap (λ (vs : List Weight). total (map (weighted_constant case) vs)) (take_more ws i d below) ∙ total_map_push (weighted_constant case) (take i ws) (get_or ws i d)))
