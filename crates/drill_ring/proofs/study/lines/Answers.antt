use Rattle.std.proofs.Common.{[], ◌∷◌, ◌++◌, ap, ◌∙◌}
use Rattle.coord_model.specs.declared.study.Line.{Line}
use Rattle.drill_ring.specs.Drill.{line_of}
use Rattle.drill_ring.proofs.Counted.{mapped_more}
use Rattle.drill_ring.proofs.study.lines.Goals as goal

pub loop-k-preserved : goal.loop-k-preserved
loop-k-preserved c =
    mapped_more (line_of c.args.n) c.loop-k.k c.loop-k.lines.items _ c.loop-k.auto.k c.loop-k.invariant
    (c.in_ok-push.ensures.items ∙ ap (λ (line : Line). c.loop-k.lines.items ++ line ∷ []) c.line.ensures)
