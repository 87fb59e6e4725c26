use Rattle.std.specs.Prelude.{pos, ◌+ℤ◌, ◌≤ℤ◌}
use Rattle.std.proofs.Common.{◌≡◌, ◌*◌, ◌^◌, map, take}
use Rattle.box_bound.specs.DualValue.{total, weighted_constant}
use Rattle.box_bound.proofs.dual.constants.Given as goal

abbrev pub invariant-loop-weight : goal.invariant-loop-weight
invariant-loop-weight l = record {
  sum : l.sum ≡ total (map (weighted_constant l.inst) (take l.weight-index l.weights));
  not_low : pos 0 ≤ℤ (l.sum +ℤ pos (l.weight-index * 2 ^ 87));
  not_high : l.sum ≤ℤ pos (l.weight-index * 2 ^ 87);
}
