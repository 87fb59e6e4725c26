use Rattle.std.proofs.Common.{◌≡◌, arith, ap, length, ℕ, ◌↔◌}
use Rattle.std.proofs.lemmas.List.{length_push}
use Rattle.margin_rows.specs.Box.{IsEmpty, IsIn, no_steps}
use Rattle.margin_rows.specs.FirstBox.{IsFirstStep}
use Rattle.margin_rows.specs.declared.span.Steps.{Steps}
use Rattle.margin_rows.proofs.Written.{each_more}
use Rattle.margin_rows.proofs.ranges.first_pickups.Goals as goal

pub loop-relay-preserved : goal.loop-relay-preserved
loop-relay-preserved c =
    let case = c.args.inst.now in
    record {
      count = omega (arith, ap (λ xs. length xs) c.in_ok-push.ensures.items, length_push c.loop-relay.spans.items c.first_steps.result, c.loop-relay.invariant.count);
      each = λ i step.
          let P : ℕ → Steps → Type 0 = λ k span. IsIn span step ↔ IsFirstStep case k step in
          rw c.in_ok-push.ensures.items (each_more P c.loop-relay.spans.items c.first_steps.result (λ k. c.loop-relay.invariant.each k step) (rw c.loop-relay.invariant.count (c.first_steps.ensures.exact step)) i);
      none = λ i. rw c.in_ok-push.ensures.items (each_more (λ k span. IsEmpty span → span ≡ no_steps) c.loop-relay.spans.items c.first_steps.result c.loop-relay.invariant.none c.first_steps.ensures.none i);
    }
