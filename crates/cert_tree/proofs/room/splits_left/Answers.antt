use Rattle.cert_tree.proofs.Splits.{one_relay_more}
use Rattle.cert_tree.proofs.room.splits_left.Goals as goal

pub loop-relay-preserved : goal.loop-relay-preserved
loop-relay-preserved c =
    let sum = rw c.in_ok-splits.ensures.ok_part at c.checked_add.ensures in
    one_relay_more c.args.ranges.now.pickup c.loop-relay.relay c.loop-relay.splits c.splits_of-more.result c.in_ok-splits.splits c.pickup.result c.loop-relay.invariant c.pickup.ensures c.splits_of-more.ensures sum.1
