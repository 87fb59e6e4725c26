use Rattle.std.proofs.Common.{◌≡◌, take}
use Rattle.box_bound.specs.DualValue.{total}
use Rattle.box_bound.proofs.Totals.{IsNear}
use Rattle.box_bound.proofs.parts.sum.Given as goal

abbrev pub invariant-loop-least : goal.invariant-loop-least
invariant-loop-least l = record {
  sum : l.sum ≡ total (take l.least-index l.leasts);
  near : IsNear l.least-index l.sum;
}
