use Rattle.std.proofs.Common.{arith}
use Rattle.search_tree.proofs.Arenas.{queue_some, first_within}
use Rattle.search_tree.proofs.Growth.{closing}
use Rattle.search_tree.proofs.tree.close_first.Goals as goal

pub take-number-requires : goal.take-number-requires
take-number-requires g c = record { some = queue_some _ _ c.requires.arena c.requires.open }

pub index_mut-requires : goal.index_mut-requires
index_mut-requires g c =
    let w = first_within _ _ c.requires.arena _ c.take-number.ensures.first in
    omega (arith, c.args.slots.now.ok.0)

pub returns-clause-exact : goal.returns-clause-exact
returns-clause-exact g c = (closing _ _ c.take-number.new.self c.requires.arena _ c.take-number.ensures.first c.take-number.ensures.rest c.args.leaf).0

pub returns-clause-arena : goal.returns-clause-arena
returns-clause-arena g c = (closing _ _ c.take-number.new.self c.requires.arena _ c.take-number.ensures.first c.take-number.ensures.rest c.args.leaf).1
