use Rattle.box_bound.proofs.Totals.{IsSumOf, IsNear}
use Rattle.box_bound.proofs.dual.value.Given as goal

abbrev pub invariant-loop-relay : goal.invariant-loop-relay
invariant-loop-relay l = record {
  sum : IsSumOf l.inst l.ranges l.lambda l.weights l.relay l.sum;
  near : IsNear l.relay l.sum;
}
