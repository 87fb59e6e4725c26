use Rattle.branch_bound.proofs.Starting.{done_by_lead}
use Rattle.search_tree.specs.Plan.{plan_of}
use Rattle.branch_bound.proofs.solver.Solver.done.Goals as goal

pub returns-else-self : goal.returns-else-self
returns-else-self c =
    rw (← c.self.view_is) (done_by_lead (plan_of c.self.inside.tree) c.lead.result c.self.inside.boxes c.self.inside.budget c.is_none.result c.lead.ensures.exact c.is_none.ensures c.self.invariant.counted c.if-self.false)
