use Rattle.std.proofs.Common.{subst}
use Rattle.search_tree.proofs.Entries.{first_of}
use Rattle.search_tree.specs.Steps.{IsFirstOf}
use Rattle.search_tree.proofs.queue.Queue.first.Goals as goal

pub returns-in-Some : goal.returns-in-Some
returns-in-Some c =
    let h = c.in-Some.ensures in
    subst (λ l. IsFirstOf l c.in-Some.entry.now.0) c.self.view_is (first_of c.in-Some.entry.now _ h.item.3.0 h.lookup (h.greatest c.self.invariant))
