use Rattle.margin_rows.specs.Raised.{AreLow}
use Rattle.margin_rows.proofs.Raising.{IsSoFar}
use Rattle.margin_rows.proofs.least.raise_round.Given as goal

abbrev pub invariant-loop-row : goal.invariant-loop-row
invariant-loop-row l = record {
  low : AreLow l.meeting l.inst l.pickups l.dials;
  so_far : IsSoFar l.meeting l.inst l.pickups l.fn.dials l.dials l.row l.rise;
}
