use Rattle.std.proofs.Common.{◌≡◌, ◌≤◌, length, take}
use Rattle.box_bound.specs.Weighing.{touching}
use Rattle.box_bound.proofs.touching.touching.Given as goal

abbrev pub invariant-loop-weight : goal.invariant-loop-weight
invariant-loop-weight l = record {
  front : take l.count l.front ≡ touching l.inst l.relay (take l.weight-index l.weights);
  few : l.count ≤ l.weight-index;
  size : length l.front ≡ 64;
}
