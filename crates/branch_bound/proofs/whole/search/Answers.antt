use Rattle.std.proofs.Common.{subst, sym, ◌∙◌}
use Rattle.branch_bound.specs.Machine.{Run, State, first_state, none}
use Rattle.branch_bound.proofs.Stepped.{run_more}
use Rattle.branch_bound.proofs.whole.search.Goals as goal

pub loop-solver-init : goal.loop-solver-init
loop-solver-init g c =
    let start = c.in_ok-solver.ensures.begun.0 in
    let search = c.in_ok-solver.solver in
    record {
      same_case = start.same_case;
      same_gap = start.same_gap;
      same_budget = start.same_budget;
      covers = c.in_ok-solver.ensures.begun.1;
      run = λ first is. subst (λ (s : State). Run search.case first search.gap search.budget first_state s) (sym start.state) none;
    }

pub loop-solver-preserved : goal.loop-solver-preserved
loop-solver-preserved g c =
    let step = c.in_ok-step.ensures.stepped in
    let kept = c.loop-solver.invariant in
    record {
      same_case = step.same_case ∙ kept.same_case;
      same_gap = step.same_gap ∙ kept.same_gap;
      same_budget = step.same_budget ∙ kept.same_budget;
      covers = kept.covers;
      run = run_more c.loop-solver.solver c.step.new.self step kept.run;
    }
