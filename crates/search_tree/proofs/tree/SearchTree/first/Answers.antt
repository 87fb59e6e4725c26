use Rattle.std.proofs.Common.{arith}
use Rattle.search_tree.proofs.Arenas.{none_open, first_within, first_slot, first_value, some_open}
use Rattle.search_tree.proofs.tree.SearchTree.first.Goals as goal

pub returns-in_default-clause-exact : goal.returns-in_default-clause-exact
returns-in_default-clause-exact g c = rw (← c.self.view_is) (none_open _ _ c.self.invariant c.in_default.ensures)

pub index-requires : goal.index-requires
index-requires g c =
    let w = first_within _ _ c.self.invariant _ c.in-Some.ensures in
    omega (arith, c.self.inside.slots.ok.0)

pub unreachable-requires : goal.unreachable-requires
unreachable-requires g c =
    c.in_default-index.not-Open _ _ (first_slot _ _ c.self.invariant _ c.in-Some.ensures c.index.result.now c.index.ensures).1

pub returns : goal.returns
returns g c = record { exact = rw (← c.self.view_is) (first_value _ _ c.self.invariant _ c.in-Some.ensures c.index.result.now c.index.ensures _ _ c.in-Open.is); «open» = λ _. rw (← c.self.view_is) (some_open _ _ c.self.invariant _ c.in-Some.ensures) }
