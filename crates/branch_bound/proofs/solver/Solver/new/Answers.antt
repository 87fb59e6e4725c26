use Rattle.std.proofs.Common.{arith, refl}
use Rattle.margin_rows.specs.Gap.{IsGapEnough}
use Rattle.branch_bound.proofs.Stepped.{start_is, start_state}
use Rattle.branch_bound.proofs.solver.Solver.new.Goals as goal
use Rattle.branch_bound.proofs.solver.Solver.new.Goals.{In_ok-tree}

covers : (c : In_ok-tree) → IsGapEnough c.args.inst.now c.args.gap
covers c = record { least = c.least_gap-least.result; exact = c.least_gap-least.ensures.exact; at_least = omega (arith, c.if-gap-least.false) }

pub invariant_of-result : goal.invariant_of-result
invariant_of-result c =
    let first = c.in_ok-first.ensures in
    start_is c.args.inst.now c.args.gap c.args.budget c.in_ok-first.first c.in_ok-tree.tree first.limits (covers c) c.requires.budget c.requires.budget_small first.fits first.ranges first.weights
    c.in_ok-tree.ensures.exact c.in_ok-tree.ensures.count

pub returns : goal.returns
returns c =
    let first = c.in_ok-first.ensures in
    record {
      begun = (
        record {
          same_case = refl;
          same_gap = refl;
          same_budget = refl;
          none_yet = refl;
          state = start_state c.args.inst.now c.args.gap c.args.budget c.in_ok-first.first c.in_ok-tree.tree first.limits (covers c) c.requires.budget c.requires.budget_small first.fits first.ranges first.weights
              c.in_ok-tree.ensures.exact c.in_ok-tree.ensures.count;
        },
        covers c,
      );
    }
