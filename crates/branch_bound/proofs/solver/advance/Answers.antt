use Rattle.std.proofs.Common.{sym, ◌∙◌}
use Rattle.search_tree.specs.Plan.{plan_of}
use Rattle.branch_bound.proofs.Placing.{advanced, latest_none, latest_some, placed_open}
use Rattle.branch_bound.proofs.solver.advance.Goals as goal

pub handle-requires-clause-parent : goal.handle-requires-clause-parent
handle-requires-clause-parent g c = placed_open c.args.inst.now c.requires.placed.0 (plan_of c.args.tree.now) c.requires.placed.1 c.in-Some.ensures.exact.open_leaf

pub returns-then-is_some-clause-advanced : goal.returns-then-is_some-clause-advanced
returns-then-is_some-clause-advanced g c =
    advanced c.args.inst.now c.args.gap c.args.issued.now c.in_ok-handling.better c.in_ok-handling.handling c.in-Some.field-0-0 c.in-Some.open.now c.args.tree.now c.take.new.tree
    c.in-Some.ensures.exact (rw (latest_some c.args.issued.now c.in_ok-handling.better (sym c.is_some.ensures ∙ c.if-is_some.true)) at c.in_ok-handling.ensures.handled) c.in_ok-handling.ensures.halves
    c.in_ok-handling.ensures.priced c.in_ok-take.ensures.count c.in_ok-take.ensures.exact

pub returns-else-is_some-clause-advanced : goal.returns-else-is_some-clause-advanced
returns-else-is_some-clause-advanced g c =
    advanced c.args.inst.now c.args.gap c.args.issued.now c.args.issued.now c.in_ok-handling.handling c.in-Some.field-0-0 c.in-Some.open.now c.args.tree.now c.take.new.tree
    c.in-Some.ensures.exact (rw (latest_none c.args.issued.now c.in_ok-handling.better (sym c.is_some.ensures ∙ c.if-is_some.false)) at c.in_ok-handling.ensures.handled) c.in_ok-handling.ensures.halves
    c.requires.priced c.in_ok-take.ensures.count c.in_ok-take.ensures.exact
