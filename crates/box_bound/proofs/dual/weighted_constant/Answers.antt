use Rattle.std.specs.Prelude.{ℤ, pos, ◌*ℤ◌}
use mir.Syntax.{w64, w128}
use mir.Val.{SFits, of_z, to_z}
use Rattle.std.proofs.Common.{◌≡◌, rules, arith, subst}
use Rattle.std.proofs.lemmas.Int.{to_z-of_z}
use Rattle.box_bound.specs.DualValue.{weighted_constant}
use Rattle.box_bound.proofs.Constants.{IsClose, close_fits, constant_close}
use Rattle.box_bound.proofs.dual.weighted_constant.Goals as goal
use Rattle.box_bound.proofs.dual.weighted_constant.Goals.{After-from-2}

-- the product is near 0, so it fits
close : (c : After-from-2) → IsClose 1 (weighted_constant c.args.inst.now c.args.weight)
close c =
    let k = c.row_constant.ensures in
    subst (λ (z : ℤ). IsClose 1 (pos c.args.weight.weight *ℤ z)) k.exact (constant_close c.args.weight.weight c.row_constant.result (search rules) k.not_low k.not_high)

read : (c : After-from-2) → to_z w128 (of_z w128 (to_z w128 (of_z w128 c.from.result) *ℤ to_z w128 (of_z w128 c.from-2.result))) ≡ weighted_constant c.args.inst.now c.args.weight
read c =
    let first : SFits w128 c.from.result = search rules in
    let second : SFits w128 c.from-2.result = search rules in
    let inner : SFits w64 c.row_constant.result = search rules in
    let whole = close_fits 1 _ (omega arith) (close c) in
    rw (to_z-of_z w128 c.from.result first, to_z-of_z w128 c.from-2.result second, c.from.ensures, c.from-2.ensures, to_z-of_z w64 c.row_constant.result inner, c.row_constant.ensures.exact)
    (to_z-of_z w128 (weighted_constant c.args.inst.now c.args.weight) whole)

pub returns-clause-exact : goal.returns-clause-exact
returns-clause-exact c = read c

pub returns-clause-not_low : goal.returns-clause-not_low
returns-clause-not_low c = rw (read c) (close c).not_low

pub returns-clause-not_high : goal.returns-clause-not_high
returns-clause-not_high c = rw (read c) (close c).not_high
