use Rattle.std.proofs.Common.{rules}
use Rattle.std.proofs.lemmas.Int.{to_z-of_z}
use mir.Syntax.{w128}
use mir.Val.{SFits}
use Rattle.box_bound.specs.RelayParts.{dials_of}
use Rattle.box_bound.specs.Standing.{IsSmall}
use Rattle.box_bound.proofs.Leasts.{IsLesser, lesser_read, picked_small, at_dial_small, part_read, least_of_ends}
use Rattle.box_bound.proofs.Spans.{dials_read, low_is_step, high_is_step}
use Rattle.box_bound.proofs.least.least_at.Goals as goal
use Rattle.box_bound.proofs.least.least_at.Goals.{After-min}

pub dial_at-requires : goal.dial_at-requires
dial_at-requires c = low_is_step (dials_read c.args.inst.now c.args.ranges.now c.args.relay c.dial-dials.result c.requires.weighed.filled c.dial-dials.ensures)

pub dial_at-requires-2 : goal.dial_at-requires-2
dial_at-requires-2 c = high_is_step (dials_read c.args.inst.now c.args.ranges.now c.args.relay c.dial-dials.result c.requires.weighed.filled c.dial-dials.ensures)

lesser : (c : After-min) → IsLesser c.at_dial-low.result c.at_dial-high.result c.min.result
lesser c =
    let low_fits : SFits w128 c.at_dial-low.result = search rules in
    let high_fits : SFits w128 c.at_dial-high.result = search rules in
    lesser_read c.at_dial-low.result c.at_dial-high.result c.min.result _ _ c.min.ensures.value c.min.ensures.self_bound c.min.ensures.other_bound
    (to_z-of_z w128 c.at_dial-low.result low_fits) (to_z-of_z w128 c.at_dial-high.result high_fits)

small : (c : After-min) → IsSmall c.min.result
small c =
    let k = c.coefficient_at-coefficient in
    picked_small c.at_dial-low.result c.at_dial-high.result c.min.result (lesser c).one
    (at_dial_small c.dial_at.result k.result.gain k.result.loss c.at_dial-low.result c.at_dial-low.ensures c.dial_at.ensures.small k.ensures.gain_small k.ensures.loss_small)
    (at_dial_small c.dial_at-2.result k.result.gain k.result.loss c.at_dial-high.result c.at_dial-high.ensures c.dial_at-2.ensures.small k.ensures.gain_small k.ensures.loss_small)

pub returns-clause-not_low : goal.returns-clause-not_low
returns-clause-not_low c =
    let fits : SFits w128 c.min.result = search rules in
    rw (to_z-of_z w128 c.min.result fits) (small (goal.at.returns-clause-not_low c).After-min).not_low

pub returns-clause-not_high : goal.returns-clause-not_high
returns-clause-not_high c =
    let fits : SFits w128 c.min.result = search rules in
    rw (to_z-of_z w128 c.min.result fits) (small (goal.at.returns-clause-not_high c).After-min).not_high

pub returns-clause-exact : goal.returns-clause-exact
returns-clause-exact c =
    let fits : SFits w128 c.min.result = search rules in
    let case = c.args.inst.now in
    let ws = c.args.weights.now in
    let i = c.args.relay in
    let k = c.coefficient_at-coefficient in
    let read = dials_read case c.args.ranges.now i c.dial-dials.result c.requires.weighed.filled c.dial-dials.ensures in
    let low = part_read case c.args.lambda ws i c.args.step c.dial-dials.result.lo c.dial_at.result k.result.gain k.result.loss c.at_dial-low.result c.at_dial-low.ensures c.dial_at.ensures.exact k.ensures.gain k.ensures.loss in
    let high = part_read case c.args.lambda ws i c.args.step c.dial-dials.result.hi c.dial_at-2.result k.result.gain k.result.loss c.at_dial-high.result c.at_dial-high.ensures c.dial_at-2.ensures.exact k.ensures.gain k.ensures.loss in
    rw (to_z-of_z w128 c.min.result fits)
    (let less = lesser (goal.at.returns-clause-exact c).After-min in
    least_of_ends case c.args.lambda ws i (dials_of c.args.ranges.now i) c.args.step c.dial-dials.result c.at_dial-low.result c.at_dial-high.result c.min.result read low high less.first less.second less.one)
