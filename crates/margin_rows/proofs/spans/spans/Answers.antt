use Rattle.std.proofs.Common.{arith, ap, length, ℕ, get_or, subst}
use Rattle.coord_model.specs.StudyData.{StudyData}
use Rattle.margin_rows.specs.FirstBox.{IsFirstSpanOf}
use Rattle.margin_rows.specs.Reach.{IsClearSpan}
use Rattle.std.proofs.lemmas.List.{length_push}
use Rattle.margin_rows.proofs.Places.{each_push}
use Rattle.margin_rows.proofs.Reached.{span_is_first}
use Rattle.margin_rows.proofs.spans.spans.Goals as goal

pub loop-relay-preserved : goal.loop-relay-preserved
loop-relay-preserved c =
    let P : ℕ → Type 0 = λ k. IsClearSpan c.args.given.now c.loop-relay.relay (get_or c.args.reach.now k 0) c.span.result in
    record {
      count = omega (arith, ap (λ xs. length xs) c.in_ok-push.ensures.items, length_push c.loop-relay.spans.items c.span.result, c.loop-relay.invariant.count);
      each = each_push (λ i. IsFirstSpanOf c.args.given.now i) c.loop-relay.spans.items c.push.new.self.items c.span.result c.loop-relay.relay c.loop-relay.invariant.count c.in_ok-push.ensures.items c.loop-relay.invariant.each
          (span_is_first c.args.given.now c.loop-relay.relay (get_or c.args.reach.now c.loop-relay.relay 0) c.span.result (c.requires.each c.loop-relay.relay (omega (arith, c.loop-relay-test.true, c.len-relay-end.ensures, c.study.result.now.relays.ok.0, ap (λ (s : StudyData). length s.relays) c.study.ensures.value))) (subst P c.from.ensures c.span.ensures));
    }
