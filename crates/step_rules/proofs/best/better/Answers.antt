use Rattle.step_rules.specs.Usable.{leaf_weights}
use Rattle.step_rules.proofs.Bests.{best_kept, best_taken}
use Rattle.step_rules.proofs.best.better.Goals as goal

pub returns-then-bound-best-clause-best : goal.returns-then-bound-best-clause-best
returns-then-bound-best-clause-best c several are =
    best_kept c.args.inst.now c.args.ranges.now c.requires.fits c.requires.steps several (leaf_weights c.args.best.weights) (leaf_weights c.args.other.now) c.args.best.bound c.bound_by-bound.result
    are c.bound_by-bound.ensures c.if-bound-best.true

pub returns-clause-best : goal.returns-clause-best
returns-clause-best c several are =
    rw c.in_ok-weights.ensures
    (best_taken c.args.inst.now c.args.ranges.now c.requires.fits c.requires.steps several (leaf_weights c.args.best.weights) (leaf_weights c.args.other.now) c.args.best.bound c.bound_by-bound.result
    are c.bound_by-bound.ensures c.if-bound-best.false)
