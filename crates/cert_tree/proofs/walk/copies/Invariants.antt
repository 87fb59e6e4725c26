use Rattle.std.proofs.Common.{◌≡◌, replicate}
use Rattle.cert_tree.proofs.walk.copies.Given as goal

abbrev pub invariant-loop : goal.invariant-loop
invariant-loop l = l.room.items ≡ replicate l.counter l.ranges
