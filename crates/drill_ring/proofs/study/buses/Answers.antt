use Rattle.std.proofs.Common.{ℕ, List, [], ◌∷◌, ◌++◌, ap, ◌∙◌}
use Rattle.drill_ring.specs.Drill.{bus_of}
use Rattle.drill_ring.proofs.Counted.{mapped_more}
use Rattle.drill_ring.proofs.study.buses.Goals as goal

pub loop-k-preserved : goal.loop-k-preserved
loop-k-preserved c =
    mapped_more bus_of c.loop-k.k c.loop-k.buses.items _ c.loop-k.auto.k c.loop-k.invariant
    (c.in_ok-push.ensures.items ∙ ap (λ (bus : List ℕ). c.loop-k.buses.items ++ bus ∷ []) c.name.ensures)
