use Rattle.std.proofs.Common.{rules, ap, arith, length}
use Rattle.std.proofs.lemmas.Int.{to_z-of_z}
use mir.Syntax.{w128}
use mir.Val.{SFits}
use Rattle.coord_model.specs.StudyData.{StudyData}
use Rattle.box_bound.proofs.PartLaws.{first_more, few_small, first_stand}
use Rattle.box_bound.proofs.parts.Parts.new.Goals as goal

pub loop-relay-preserved : goal.loop-relay-preserved
loop-relay-preserved c =
    let fits : SFits w128 c.least_part.result = search rules in
    record {
      first = first_more c.args.inst.now c.args.ranges.now c.loop-relay.relay c.loop-relay.leasts.items c.push.new.self.items c.least_part.result
          (rw (to_z-of_z w128 c.least_part.result fits) at c.in_ok-push.ensures.items) c.least_part.ensures.exact
          (record { not_low = c.least_part.ensures.not_low; not_high = c.least_part.ensures.not_high }) c.loop-relay.invariant.first;
    }

pub invariant_of-result : goal.invariant_of-result
invariant_of-result c =
    few_small c.args.inst.now c.args.ranges.now c.loop-relay.relay c.loop-relay.leasts.items
    (omega (arith, c.loop-relay.auto.relay-end, c.len-relay-end.ensures, c.study.ensures.fits.study.relay_count, ap (λ (s : StudyData). length s.relays) c.study.ensures.value)) c.loop-relay.invariant.first

pub returns : goal.returns
returns c =
    first_stand c.args.inst.now c.args.ranges.now c.loop-relay.relay c.loop-relay.leasts.items
    (omega (arith, c.loop-relay-test.false, c.loop-relay.auto.relay-end, c.len-relay-end.ensures, c.study.result.now.relays.ok.0, ap (λ (s : StudyData). length s.relays) c.study.ensures.value)) c.loop-relay.invariant.first
