use Rattle.std.proofs.Common.{ℕ, subst}
use Rattle.step_rules.specs.Offers.{Reaches}
use Rattle.step_rules.specs.Usable.{leaf_weights}
use Rattle.step_rules.proofs.Bests.{bound_only}
use Rattle.step_rules.proofs.rules.closes.Goals as goal

pub returns-then-can_bound : goal.returns-then-can_bound
returns-then-can_bound c issued same =
    let case = c.args.inst.now in
    let box = c.args.ranges.now in
    let weights = leaf_weights c.args.weights.now in
    let is = c.reaches.ensures case issued same in
    let can = c.can_bound.ensures.0 c.if-can_bound.true in (
      λ holds. record { can = can; bound = c.bound_by.result; gives = c.bound_by.ensures; reaches = is.0 holds },
      λ closes. is.1 (subst (λ (b : ℕ). Reaches case c.args.gap issued b) (bound_only case box weights closes.bound c.bound_by.result c.requires.fits c.requires.steps closes.gives c.bound_by.ensures) closes.reaches),
    )
