use Rattle.std.proofs.Common.{subst}
use Rattle.search_tree.proofs.Entries.{first_of, some_taken, sum_taken}
use Rattle.search_tree.specs.Steps.{IsFirstOf}
use Rattle.search_tree.proofs.queue.Queue.take.Goals as goal

pub returns-clause-first : goal.returns-clause-first
returns-clause-first c =
    let h = c.in-Some.ensures in
    let first = first_of c.in-Some.entry _ (some_taken _ _ _ h.permutation) h.top (h.heap_order c.self.invariant).1 in
    subst (λ l. IsFirstOf l c.in-Some.entry.0) c.self.view_is first

pub returns-clause-rest : goal.returns-clause-rest
returns-clause-rest c f = rw (← c.self.view_is) (sum_taken _ _ _ c.in-Some.ensures.permutation f)
