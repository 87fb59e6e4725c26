use Rattle.std.specs.Prelude.{sum_by}
use Rattle.std.proofs.Common.{◌≡◌, take}
use Rattle.cert_tree.specs.Room.{splits_of}
use Rattle.cert_tree.proofs.room.splits_left.Given as goal

abbrev pub invariant-loop-relay : goal.invariant-loop-relay
invariant-loop-relay l = l.splits ≡ sum_by splits_of (take l.relay l.ranges.pickup)
