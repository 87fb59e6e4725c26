use Rattle.std.proofs.Common.{subst, sym, ◌∷◌, heap_items}
use Rattle.std.specs.Prelude.{map}
use Rattle.std.specs.BinaryHeap.{IsHeap}
use Rattle.std.specs.List.Sorted.{IsPermutation}
use Rattle.search_tree.proofs.Entries.{heap_cmp, first_of, some_taken, sum_exchanged}
use Rattle.search_tree.specs.Steps.{IsFirstOf}
use Rattle.search_tree.proofs.queue.Queue.exchange.Goals as goal

pub invariant_of-self-2 : goal.invariant_of-self-2
invariant_of-self-2 c =
    let h = c.in-Some.ensures in
    let heap = subst (IsHeap heap_cmp) (sym c.in_ok-reserve.ensures.items) c.self.invariant in
    c.in_ok-push-2.ensures.heap_order (c.in_ok-push.ensures.heap_order (h.heap_order heap).0)

pub returns-clause-first : goal.returns-clause-first
returns-clause-first c =
    let h = c.in-Some.ensures in
    let items = c.in_ok-reserve.ensures.items in
    let heap = subst (IsHeap heap_cmp) (sym items) c.self.invariant in
    let first = first_of c.in-Some.taken _ (some_taken _ _ _ h.permutation) h.top (h.heap_order heap).1 in
    subst (λ l. IsFirstOf l c.in-Some.taken.0) c.self.view_is (subst (λ l. IsFirstOf (map (λ e. e.0) l) c.in-Some.taken.0) items first)

pub returns-clause-rest : goal.returns-clause-rest
returns-clause-rest c f =
    let p = subst (λ l. IsPermutation l (c.in-Some.taken ∷ heap_items c.pop.new.self)) c.in_ok-reserve.ensures.items c.in-Some.ensures.permutation in
    rw (← c.self.view_is) (sum_exchanged f _ _ _ _ _ _ _ p c.in_ok-push.ensures.permutation c.in_ok-push-2.ensures.permutation)
