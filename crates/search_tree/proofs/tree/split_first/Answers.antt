use Rattle.std.proofs.Common.{arith}
use Rattle.search_tree.proofs.Arenas.{queue_some, first_within}
use Rattle.search_tree.proofs.Growth.{split_done}
use Rattle.search_tree.proofs.tree.split_first.Goals as goal

pub exchange-requires : goal.exchange-requires
exchange-requires g c = record { some = queue_some _ _ c.requires.arena c.requires.open }

pub branch-slots-requires-clause-within : goal.branch-slots-requires-clause-within
branch-slots-requires-clause-within g c =
    let w = first_within _ _ c.requires.arena _ c.in_ok-number.ensures.first in
    omega (arith, c.args.slots.now.ok.0, c.in_ok-reserve.ensures.len)

pub returns-clause-exact : goal.returns-clause-exact
returns-clause-exact g c =
    let table = c.in_ok-reserve.ensures in
    (split_done _ c.reserve.new.self.items c.branch-slots.new.slots.items _ c.exchange.new.self c.requires.arena _ _ c.len-next.result c.in_ok-number.ensures.first _ _ _ _ c.requires.room table.items (omega (arith, c.args.slots.now.ok.0, table.len, c.len-next.ensures)) c.branch-slots.ensures c.in_ok-number.ensures.rest).0

pub returns-clause-arena : goal.returns-clause-arena
returns-clause-arena g c =
    let table = c.in_ok-reserve.ensures in
    (split_done _ c.reserve.new.self.items c.branch-slots.new.slots.items _ c.exchange.new.self c.requires.arena _ _ c.len-next.result c.in_ok-number.ensures.first c.args.relay c.args.at _ _ c.requires.room table.items (omega (arith, c.args.slots.now.ok.0, table.len, c.len-next.ensures)) c.branch-slots.ensures c.in_ok-number.ensures.rest).1
