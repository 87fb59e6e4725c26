use Rattle.std.proofs.Common.{arith}
use Rattle.coord_run.proofs.drill.search_ring.Goals as goal

pub unreachable-requires : goal.unreachable-requires
unreachable-requires c =
    let refused = rw c.in-Err-GapTooSmall.field-0-is at c.in-Err-GapTooSmall.ensures in
    omega (arith, refused.2, c.drill_gap.ensures.enough _ refused.1)
