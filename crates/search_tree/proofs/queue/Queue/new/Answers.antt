use Rattle.std.proofs.Common.{subst, arith, heap_items, [], ◌∷◌}
use Rattle.std.specs.List.Sorted.{IsPermutation}
use Rattle.search_tree.proofs.Entries.{sum_put}
use Rattle.search_tree.proofs.queue.Queue.new.Goals as goal

pub returns : goal.returns
returns c f =
    let p = subst (λ l. IsPermutation (record { 0 = c.args.entry } ∷ l) (heap_items c.push.new.self)) c.new-heap.ensures.items c.in_ok-push.ensures.permutation in
    let e = sum_put (record { 0 = c.args.entry }) [] _ p f in
    omega (arith, e)
