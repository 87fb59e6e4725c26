use Rattle.std.proofs.Common.{List, ℕ, length, take, arith, ap, sym, ◌∙◌}
use Rattle.std.proofs.lemmas.List.{length-set}
use Rattle.coord_model.specs.declared.weights.Weight.{Weight}
use Rattle.box_bound.proofs.Counting.{one_more, none_more}
use Rattle.box_bound.proofs.touching.touching.Goals as goal
use Rattle.box_bound.proofs.touching.touching.Goals.{then-touches, else-touches}

pub loop-weight-preserved : goal.loop-weight-preserved
loop-weight-preserved c =
    let none : Weight = record { row = 0; weight = 0 } in
    elim c.if-touches.branch [
      | then-touches w ↦ record {
        front = ap (λ (n : ℕ). take n c.if-touches.front) w.count-is
            ∙ one_more c.args.inst.now c.args.relay c.args.weights.now c.loop-weight.weight-index none c.loop-weight-test.true c.loop-weight.count c.loop-weight.front c.if-touches.front c.loop-weight.invariant.front
            (omega (arith, c.loop-weight.invariant.few, c.loop-weight.invariant.size, c.loop-weight-test.true, c.requires.few)) (sym c.touches.ensures ∙ w.if-touches.true) w.front-is;
        few = omega (arith, w.count-is, c.loop-weight.invariant.few);
        size = ap (λ (ws : List Weight). length ws) w.front-is ∙ length-set c.loop-weight.front c.loop-weight.count _ ∙ c.loop-weight.invariant.size;
      }
      | else-touches w ↦ record {
        front = ap (λ (n : ℕ). take n c.if-touches.front) w.count-is ∙ ap (λ (ws : List Weight). take c.loop-weight.count ws) w.front-is ∙ c.loop-weight.invariant.front
            ∙ sym (none_more c.args.inst.now c.args.relay c.args.weights.now c.loop-weight.weight-index none c.loop-weight-test.true (sym c.touches.ensures ∙ w.if-touches.false));
        few = omega (arith, w.count-is, c.loop-weight.invariant.few);
        size = ap (λ (ws : List Weight). length ws) w.front-is ∙ c.loop-weight.invariant.size;
      }
    ]
