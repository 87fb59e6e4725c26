use Rattle.std.proofs.Common.{rules}
use Rattle.lp_advice.proofs.Listed.{listed_none, listed_push}
use Rattle.lp_advice.proofs.duals.listed.Goals as goal

pub loop-row-init : goal.loop-row-init
loop-row-init c = rw c.new-rows.ensures.items listed_none

pub loop-row-preserved : goal.loop-row-preserved
loop-row-preserved c = rw c.in_ok-push.ensures.items (listed_push c.loop-row.row c.loop-row.rows.items _ (search rules) c.loop-row.invariant)
