use Rattle.std.proofs.Common.{◌≡◌, ◌-◌}
use Rattle.margin_rows.specs.Box.{Box, IsFirstBox}
use Rattle.margin_rows.specs.Gap.{IsGapEnough}
use Rattle.branch_bound.specs.Machine.{Run, first_state}
use Rattle.branch_bound.specs.Searching.{state_of}
use Rattle.branch_bound.proofs.whole.search.Given as goal

abbrev pub invariant-loop-solver : goal.invariant-loop-solver
invariant-loop-solver g l = record {
  same_case : l.solver.case ≡ l.inst;
  same_gap : l.solver.gap ≡ l.gap;
  same_budget : l.solver.budget ≡ l.budget;
  covers : IsGapEnough l.inst l.gap;
  run : (first : Box) → IsFirstBox l.solver.case first → Run l.solver.case first l.solver.gap l.solver.budget first_state (state_of l.solver);
}

abbrev pub decreases-loop-solver : goal.decreases-loop-solver
decreases-loop-solver g l = l.solver.budget - l.solver.boxes
