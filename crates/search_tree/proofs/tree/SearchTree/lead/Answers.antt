use Rattle.search_tree.proofs.Arenas.{lead_some, none_open, some_open}
use Rattle.search_tree.proofs.tree.SearchTree.lead.Goals as goal

pub returns-in-Some : goal.returns-in-Some
returns-in-Some g c = record { exact = rw (← c.self.view_is) (lead_some _ _ c.self.invariant (c.in-Some.bound, c.in-Some.field-0-1) c.in-Some.ensures); «open» = λ _. rw (← c.self.view_is) (some_open _ _ c.self.invariant _ c.in-Some.ensures) }

pub returns-in-None-clause-exact : goal.returns-in-None-clause-exact
returns-in-None-clause-exact g c = rw (← c.self.view_is) (none_open _ _ c.self.invariant c.in-None.ensures)
