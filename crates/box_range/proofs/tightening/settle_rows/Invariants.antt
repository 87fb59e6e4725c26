use Rattle.std.specs.List.{Contains}
use Rattle.coord_model.specs.declared.study.Row.{Row}
use Rattle.margin_rows.specs.Box.{IsFilled}
use Rattle.margin_rows.specs.Case.{rows_in}
use Rattle.box_range.specs.Drops.{Drops}
use Rattle.box_range.specs.Rounds.{IsDueOrSettled}
use Rattle.box_range.specs.Settled.{size}
use Rattle.box_range.proofs.tightening.settle_rows.Given as goal

abbrev pub invariant-rounds : goal.invariant-rounds
invariant-rounds l = record {
  drops : Drops l.inst l.initial.ranges l.ranges;
  filled : IsFilled l.inst l.ranges;
  rest : (row : Row) → Contains (rows_in l.inst) row → IsDueOrSettled l.inst l.ranges l.due row;
}

abbrev pub decreases-rounds : goal.decreases-rounds
decreases-rounds l = size l.ranges
