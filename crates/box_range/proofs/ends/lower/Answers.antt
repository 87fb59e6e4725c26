use Rattle.box_range.specs.declared.row.Part.TheVariants.{Primary}
use Rattle.box_range.proofs.Cuts.{uncut}
use Rattle.box_range.proofs.Meets.{meets_lowest, relay_below}
use Rattle.box_range.proofs.Narrowed.{lowered, lowered_end}
use Rattle.box_range.proofs.Places.{listed}
use Rattle.box_range.proofs.Shown.{shown_ends}
use Rattle.box_range.proofs.ends.lower.Goals as goal

pub span-steps-requires : goal.span-steps-requires
span-steps-requires c =
    let case = c.args.inst.now in
    relay_below case c.args.ranges.now c.args.at.row c.requires.filled (listed case c.args.at.number c.args.at.row c.requires.place) Primary c.args.kind

pub highest-high-requires-clause-low : goal.highest-high-requires-clause-low
highest-high-requires-clause-low c =
    let case = c.args.inst.now in
    let there = listed case c.args.at.number c.args.at.row c.requires.place in
    (shown_ends case c.args.ranges.now c.args.at.row Primary c.args.kind c.span-steps.result c.requires.filled there c.span-steps.ensures).low_in

pub highest-high-requires-clause-high : goal.highest-high-requires-clause-high
highest-high-requires-clause-high c =
    let case = c.args.inst.now in
    let there = listed case c.args.at.number c.args.at.row c.requires.place in
    (shown_ends case c.args.ranges.now c.args.at.row Primary c.args.kind c.span-steps.result c.requires.filled there c.span-steps.ensures).high_in

pub highest-high-requires-clause-ordered : goal.highest-high-requires-clause-ordered
highest-high-requires-clause-ordered c =
    let case = c.args.inst.now in
    let there = listed case c.args.at.number c.args.at.row c.requires.place in
    (shown_ends case c.args.ranges.now c.args.at.row Primary c.args.kind c.span-steps.result c.requires.filled there c.span-steps.ensures).ordered

pub highest-high-requires-clause-met : goal.highest-high-requires-clause-met
highest-high-requires-clause-met c =
    let case = c.args.inst.now in
    let row = c.args.at.row in
    let there = listed case c.args.at.number row c.requires.place in
    let ends = shown_ends case c.args.ranges.now row Primary c.args.kind c.span-steps.result c.requires.filled there c.span-steps.ensures in
    rw ends.low (meets_lowest case c.args.ranges.now row c.requires.filled there c.requires.asks c.args.kind c.requires.meetable)

pub returns-then-high-steps-clause-cut : goal.returns-then-high-steps-clause-cut
returns-then-high-steps-clause-cut c = uncut c.args.inst.now c.args.at.row c.args.ranges.now

pub returns-clause-cut : goal.returns-clause-cut
returns-clause-cut c =
    let case = c.args.inst.now in
    let box = c.args.ranges.now in
    let row = c.args.at.row in
    let there = listed case c.args.at.number row c.requires.place in
    let ends = shown_ends case box row Primary c.args.kind c.span-steps.result c.requires.filled there c.span-steps.ensures in
    lowered case box c.set_span.new.ranges row c.args.kind c.requires.filled there c.span-steps.result c.highest-high.result ends
    c.highest-high.ensures.within.0 c.highest-high.ensures.within.1 c.highest-high.ensures.unmet_above c.set_span.ensures

pub returns-clause-settled : goal.returns-clause-settled
returns-clause-settled c =
    let case = c.args.inst.now in
    let box = c.args.ranges.now in
    let row = c.args.at.row in
    let there = listed case c.args.at.number row c.requires.place in
    let ends = shown_ends case box row Primary c.args.kind c.span-steps.result c.requires.filled there c.span-steps.ensures in
    lowered_end case box c.set_span.new.ranges row c.args.kind c.requires.filled there c.span-steps.result c.span-steps.result.lo c.highest-high.result c.set_span.ensures
    (lowered case box c.set_span.new.ranges row c.args.kind c.requires.filled there c.span-steps.result c.highest-high.result ends
    c.highest-high.ensures.within.0 c.highest-high.ensures.within.1 c.highest-high.ensures.unmet_above c.set_span.ensures)
    c.highest-high.ensures.met
