use Rattle.std.proofs.Common.{◌<◌, rules, ap, arith, length, refl}
use Rattle.std.proofs.lemmas.Int.{to_z-of_z}
use mir.Syntax.{w128}
use mir.Val.{SFits}
use Rattle.coord_model.specs.StudyData.{StudyData}
use Rattle.box_bound.proofs.PartLaws.{mended_more, mended_small, mended_stand, same_more}
use Rattle.box_bound.proofs.parts.mend.Goals as goal
use Rattle.box_bound.proofs.parts.mend.Goals.{then-differs, else-differs}

pub loop-relay-preserved : goal.loop-relay-preserved
loop-relay-preserved c = elim c.if-differs.branch [
  | then-differs w ↦
      let fits : SFits w128 w.least_part.result = search rules in
      let below : c.loop-relay.relay < length c.args.inst.now.study.relays = omega (arith, c.loop-relay-test.true, c.loop-relay.auto.relay-end, c.len-relay-end.ensures, c.study.result.now.relays.ok.0, ap (λ (s : StudyData). length s.relays) c.study.ensures.value) in
      record {
        mended = mended_more c.args.inst.now c.args.before.now c.args.after.now c.loop-relay.relay c.loop-relay.leasts c.if-differs.leasts w.from.result w.least_part.result
            (rw (to_z-of_z w128 w.least_part.result fits) at w.leasts-is) w.from.ensures below w.least_part.ensures.exact
            (record { not_low = w.least_part.ensures.not_low; not_high = w.least_part.ensures.not_high }) c.loop-relay.invariant.mended;
      }
  | else-differs w ↦
      record {
        mended = same_more c.args.inst.now c.args.before.now c.args.after.now c.loop-relay.relay c.loop-relay.leasts c.if-differs.leasts w.leasts-is (w.if-differs.ensures refl) c.loop-relay.invariant.mended;
      }
]

pub returns-clause-stand : goal.returns-clause-stand
returns-clause-stand c =
    mended_stand c.args.inst.now c.args.before.now c.args.after.now c.loop-relay.relay c.loop-relay.leasts
    (omega (arith, c.loop-relay-test.false, c.loop-relay.auto.relay-end, c.len-relay-end.ensures, c.study.result.now.relays.ok.0, ap (λ (s : StudyData). length s.relays) c.study.ensures.value)) c.loop-relay.invariant.mended

pub returns-clause-small : goal.returns-clause-small
returns-clause-small c = mended_small c.args.inst.now c.args.before.now c.args.after.now c.loop-relay.relay c.loop-relay.leasts c.study.ensures.fits c.loop-relay.invariant.mended
