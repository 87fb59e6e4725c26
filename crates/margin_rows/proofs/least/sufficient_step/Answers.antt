use Rattle.std.proofs.Common.{ap, arith}
use Rattle.coord_model.specs.StudyData.{StudyData}
use Rattle.margin_rows.proofs.Raising.{reached_suffices, reached_least}
use Rattle.margin_rows.proofs.Written.{found_at}
use Rattle.margin_rows.proofs.least.sufficient_step.Goals as goal

pub returns-clause-suffices : goal.returns-clause-suffices
returns-clause-suffices c =
    let case = c.args.inst.now in
    let relay = c.index-relay.result.now in
    let found = found_at case.study.relays c.study.result.now.relays.items c.args.wait.backup c.from.result relay (ap (λ (s : StudyData). s.relays) c.study.ensures.value) c.from.ensures c.requires.fits.backup c.index-relay.ensures in
    reached_suffices case c.args.wait.backup c.args.wait.slow_time c.args.time c.div_ceil.result relay found (omega (arith, c.if-wait-eq0.false)) c.div_ceil.ensures c.step_reaching.result c.step_reaching.ensures.reaches

pub returns-clause-least : goal.returns-clause-least
returns-clause-least c =
    let case = c.args.inst.now in
    let relay = c.index-relay.result.now in
    let found = found_at case.study.relays c.study.result.now.relays.items c.args.wait.backup c.from.result relay (ap (λ (s : StudyData). s.relays) c.study.ensures.value) c.from.ensures c.requires.fits.backup c.index-relay.ensures in
    reached_least case c.args.wait.backup c.args.wait.slow_time c.args.time c.div_ceil.result relay found (omega (arith, c.if-wait-eq0.false)) c.div_ceil.ensures c.step_reaching.result c.step_reaching.ensures.least
