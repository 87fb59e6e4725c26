use Rattle.std.proofs.Common.{None, Some, subst}
use Rattle.branch_bound.specs.Leading.{IsLeadOf}
use Rattle.branch_bound.specs.Searching.{Search}
use Rattle.branch_bound.proofs.Leading.{lead_none, lead_some}
use Rattle.branch_bound.proofs.solver.Solver.lead.Goals as goal

pub returns-in-Some : goal.returns-in-Some
returns-in-Some c = subst (λ (s : Search). IsLeadOf s (Some c.in-Some.open.now.bound)) c.self.view_is (lead_some _ c.self.invariant c.in-Some.field-0-0 c.in-Some.open.now c.in-Some.ensures.exact)

pub returns-in-None : goal.returns-in-None
returns-in-None c = subst (λ (s : Search). IsLeadOf s None) c.self.view_is (lead_none _ c.self.invariant c.in-None.ensures.exact)
