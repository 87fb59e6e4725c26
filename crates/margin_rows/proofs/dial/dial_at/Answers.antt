use Rattle.std.proofs.Common.{◌<◌, ap}
use Rattle.coord_model.specs.StudyData.{StudyData}
use Rattle.margin_rows.proofs.Dialled.{dial_few}
use Rattle.margin_rows.proofs.Written.{read_there}
use Rattle.margin_rows.proofs.dial.dial_at.Goals as goal

pub returns-clause-small : goal.returns-clause-small
returns-clause-small c =
    let case = c.args.inst.now in
    let relay = c.index-relay.result.now in
    let read = read_there case.study.relays c.study.result.now.relays.items c.args.relay c.from.result relay (λ r. c.args.step < r.dial_count) (ap (λ (s : StudyData). s.relays) c.study.ensures.value) c.from.ensures c.index-relay.ensures c.requires in
    let few = dial_few case c.args.relay c.args.step relay c.study.ensures.fits read.0 read.1 in
    rw (c.from-2.ensures, c.from-3.ensures, c.from-4.ensures) few
