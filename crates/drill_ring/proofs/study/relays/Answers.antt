use Rattle.std.proofs.Common.{List, ◌++◌, ap, ◌∙◌}
use Rattle.coord_model.specs.declared.study.Relay.{Relay}
use Rattle.drill_ring.specs.Drill.{relays_of}
use Rattle.drill_ring.proofs.Counted.{joined_more}
use Rattle.drill_ring.proofs.study.relays.Goals as goal

pub loop-k-preserved : goal.loop-k-preserved
loop-k-preserved c =
    joined_more (relays_of c.args.n) c.loop-k.k c.loop-k.relays.items _ c.loop-k.auto.k c.loop-k.invariant
    (c.in_ok-extend_from_slice.ensures.items ∙ ap (λ (piece : List Relay). c.loop-k.relays.items ++ piece) c.relays_of.ensures)
