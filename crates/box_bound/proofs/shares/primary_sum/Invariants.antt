use Rattle.std.proofs.Common.{◌≡◌, ◌≤◌, ◌*◌, ◌^◌, take}
use Rattle.std.specs.List.{sum_by}
use Rattle.box_bound.specs.RelayParts.{primary_part}
use Rattle.box_bound.proofs.shares.primary_sum.Given as goal

abbrev pub invariant-loop-weight : goal.invariant-loop-weight
invariant-loop-weight l = record {
  sum : l.sum ≡ sum_by (primary_part l.inst l.relay l.step) (take l.weight-index l.weights);
  few : l.sum ≤ l.weight-index * 2 ^ 72;
}
