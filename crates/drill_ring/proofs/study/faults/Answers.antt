use Rattle.std.proofs.Common.{List, ◌++◌, ap, ◌∙◌}
use Rattle.coord_model.specs.declared.study.Fault.{Fault}
use Rattle.drill_ring.specs.Drill.{faults_of}
use Rattle.drill_ring.proofs.Counted.{joined_more}
use Rattle.drill_ring.proofs.study.faults.Goals as goal

pub loop-k-preserved : goal.loop-k-preserved
loop-k-preserved c =
    joined_more faults_of c.loop-k.k c.loop-k.faults.items _ c.loop-k.auto.k c.loop-k.invariant
    (c.in_ok-extend_from_slice.ensures.items ∙ ap (λ (piece : List Fault). c.loop-k.faults.items ++ piece) c.faults_of.ensures)
