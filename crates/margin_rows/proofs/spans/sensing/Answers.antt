use Rattle.std.proofs.Common.{arith, ap, ◌∙◌, ◌≡◌, ◌-◌, ℕ, length, get_or, Some}
use Rattle.std.specs.Prelude.{slice_get}
use Rattle.std.proofs.lemmas.Bool.{iff_false}
use Rattle.coord_model.specs.StudyData.{study_data, StudyData}
use Rattle.margin_rows.proofs.Reached.{relay_there, senses_there, blind_there, blind_more, cut_found}
use Rattle.margin_rows.proofs.Timed.{amps_few}
use Rattle.margin_rows.proofs.spans.sensing.Goals as goal

pub senses-requires-clause-amps : goal.senses-requires-clause-amps
senses-requires-clause-amps c =
    omega (arith, c.amps-amps.ensures, amps_few c.args.given.now.study c.args.given.now.currents c.args.fault c.args.relay c.study-study.ensures.currents.each)

pub loop-past-preserved : goal.loop-past-preserved
loop-past-preserved c =
    let study = study_data c.study-study.result.now in
    let found : slice_get c.args.given.now.study.relays c.args.relay ≡ Some c.index.result.now =
    relay_there c.args.given.now study c.args.relay c.index.result.now c.study-study.ensures.value (omega (arith, c.requires.relay, ap (λ (s : StudyData). length s.relays) c.study-study.ensures.value))
    (c.index.ensures ∙ ap (λ (k : ℕ). get_or study.relays k c.index.result.now) c.from.ensures) in
    record {
      within = omega arith;
      blind = blind_more c.args.given.now c.args.fault c.args.relay c.loop-past.past c.args.reach (omega arith) c.loop-past.invariant.blind
          (λ senses. iff_false c.senses.ensures c.if-not-senses.true
          (blind_there c.args.given.now study c.args.fault c.args.relay (c.loop-past.past - 1) c.amps-amps.result c.index.result.now c.study-study.ensures.value found c.amps-amps.ensures senses));
    }

pub returns-else-not-senses : goal.returns-else-not-senses
returns-else-not-senses c =
    let study = study_data c.study-study.result.now in
    let found : slice_get c.args.given.now.study.relays c.args.relay ≡ Some c.index.result.now =
    relay_there c.args.given.now study c.args.relay c.index.result.now c.study-study.ensures.value (omega (arith, c.requires.relay, ap (λ (s : StudyData). length s.relays) c.study-study.ensures.value))
    (c.index.ensures ∙ ap (λ (k : ℕ). get_or study.relays k c.index.result.now) c.from.ensures) in
    cut_found c.args.given.now c.args.fault c.args.relay c.loop-past.past c.args.reach c.loop-past.invariant.within c.loop-past.invariant.blind
    (λ some. senses_there c.args.given.now study c.args.fault c.args.relay (c.loop-past.past - 1) c.amps-amps.result c.index.result.now c.study-study.ensures.value found c.amps-amps.ensures (c.senses.ensures.0 c.if-not-senses.false))
