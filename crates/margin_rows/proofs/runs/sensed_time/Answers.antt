use Rattle.coord_model.specs.StudyData.{study_data}
use Rattle.coord_model.specs.Time.{plug_at}
use Rattle.std.proofs.Common.{◌≡◌, ◌*◌, refl}
use Rattle.margin_rows.proofs.Multiples.{below_cap}
use Rattle.margin_rows.proofs.runs.sensed_time.Goals as goal

pub enclose-requires-else-num-cap-clause-multiple : goal.enclose-requires-else-num-cap-clause-multiple
enclose-requires-else-num-cap-clause-multiple c =
    let num : 100 * c.from.result * c.from-2.result ≡ 100 * c.args.amps * c.args.relay.now.ct_secondary = rw (c.from.ensures, c.from-2.ensures) refl in
    let den : c.plug.result * c.from-3.result ≡ plug_at c.args.relay.now c.args.step * c.args.relay.now.ct_primary = rw (c.plug.ensures, c.from-3.ensures) refl in
    let under = rw (num, den, c.from-cap.ensures) at c.if-num-cap.false in
    rw (num, den) (below_cap (study_data c.args.study.now) c.args.relay.now c.args.step c.args.amps c.requires.study c.requires.relay c.requires.step c.requires.amps c.requires.sensed under)
