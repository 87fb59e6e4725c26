use Rattle.drill_ring.specs.DrillCurrents.{at_x, at_y, currents_of}
use Rattle.drill_ring.proofs.Counted.{joined_more, two_added}
use Rattle.drill_ring.proofs.currents.currents.Goals as goal

pub loop-k-preserved : goal.loop-k-preserved
loop-k-preserved c =
    joined_more (currents_of c.args.n) c.loop-k.k c.loop-k.entries.items _ c.loop-k.auto.k c.loop-k.invariant
    (two_added c.loop-k.entries.items c.extend_from_slice.new.self.items _ c.at_x.result c.at_y.result (at_x c.args.n c.loop-k.k) (at_y c.args.n c.loop-k.k)
    c.in_ok-extend_from_slice.ensures.items c.at_x.ensures c.in_ok-extend_from_slice-2.ensures.items c.at_y.ensures)
