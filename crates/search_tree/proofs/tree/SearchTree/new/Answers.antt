use Rattle.search_tree.proofs.Arenas.{plan_one, arena_one}
use Rattle.search_tree.proofs.tree.SearchTree.new.Goals as goal

pub invariant_of-result : goal.invariant_of-result
invariant_of-result g c = rw (c.in_ok-push.ensures.items, c.new-slots.ensures.items) (arena_one _ _ _ c.in_ok-queue.ensures)

pub returns-clause-exact : goal.returns-clause-exact
returns-clause-exact g c = rw (c.in_ok-push.ensures.items, c.new-slots.ensures.items) (plan_one _ _)
