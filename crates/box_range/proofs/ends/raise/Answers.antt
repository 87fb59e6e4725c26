use Rattle.std.proofs.Common.{◌+◌, arith}
use Rattle.box_range.specs.declared.row.Part.TheVariants.{Backup}
use Rattle.box_range.proofs.Cuts.{uncut}
use Rattle.box_range.proofs.Meets.{meets_highest, relay_below}
use Rattle.box_range.proofs.Narrowed.{raised, raised_end}
use Rattle.box_range.proofs.Places.{listed}
use Rattle.box_range.proofs.Shown.{shown_ends}
use Rattle.box_range.proofs.ends.raise.Goals as goal

pub span-steps-requires : goal.span-steps-requires
span-steps-requires c =
    let case = c.args.inst.now in
    relay_below case c.args.ranges.now c.args.at.row c.requires.filled (listed case c.args.at.number c.args.at.row c.requires.place) Backup c.args.kind

pub lowest-low-requires-clause-low : goal.lowest-low-requires-clause-low
lowest-low-requires-clause-low c =
    let case = c.args.inst.now in
    let there = listed case c.args.at.number c.args.at.row c.requires.place in
    (shown_ends case c.args.ranges.now c.args.at.row Backup c.args.kind c.span-steps.result c.requires.filled there c.span-steps.ensures).low_in

pub lowest-low-requires-clause-high : goal.lowest-low-requires-clause-high
lowest-low-requires-clause-high c =
    let case = c.args.inst.now in
    let there = listed case c.args.at.number c.args.at.row c.requires.place in
    (shown_ends case c.args.ranges.now c.args.at.row Backup c.args.kind c.span-steps.result c.requires.filled there c.span-steps.ensures).high_in

pub lowest-low-requires-clause-ordered : goal.lowest-low-requires-clause-ordered
lowest-low-requires-clause-ordered c =
    let case = c.args.inst.now in
    let there = listed case c.args.at.number c.args.at.row c.requires.place in
    (shown_ends case c.args.ranges.now c.args.at.row Backup c.args.kind c.span-steps.result c.requires.filled there c.span-steps.ensures).ordered

pub lowest-low-requires-clause-met : goal.lowest-low-requires-clause-met
lowest-low-requires-clause-met c =
    let case = c.args.inst.now in
    let row = c.args.at.row in
    let there = listed case c.args.at.number row c.requires.place in
    let ends = shown_ends case c.args.ranges.now row Backup c.args.kind c.span-steps.result c.requires.filled there c.span-steps.ensures in
    rw ends.high at (meets_highest case c.args.ranges.now row c.requires.filled there c.requires.asks c.args.kind c.requires.meetable)

pub returns-then-low-steps-clause-cut : goal.returns-then-low-steps-clause-cut
returns-then-low-steps-clause-cut c = uncut c.args.inst.now c.args.at.row c.args.ranges.now

pub overflow_add-steps : goal.overflow_add-steps
overflow_add-steps c =
    let case = c.args.inst.now in
    let there = listed case c.args.at.number c.args.at.row c.requires.place in
    omega (arith, (shown_ends case c.args.ranges.now c.args.at.row Backup c.args.kind c.span-steps.result c.requires.filled there c.span-steps.ensures).few)

pub returns-clause-cut : goal.returns-clause-cut
returns-clause-cut c =
    let case = c.args.inst.now in
    let box = c.args.ranges.now in
    let row = c.args.at.row in
    let there = listed case c.args.at.number row c.requires.place in
    let ends = shown_ends case box row Backup c.args.kind c.span-steps.result c.requires.filled there c.span-steps.ensures in
    raised case box c.set_span.new.ranges row c.args.kind c.requires.filled there c.span-steps.result c.lowest-low.result ends
    c.lowest-low.ensures.within.0 c.lowest-low.ensures.within.1 c.lowest-low.ensures.unmet_below c.set_span.ensures

pub returns-clause-settled : goal.returns-clause-settled
returns-clause-settled c =
    let case = c.args.inst.now in
    let box = c.args.ranges.now in
    let row = c.args.at.row in
    let there = listed case c.args.at.number row c.requires.place in
    let ends = shown_ends case box row Backup c.args.kind c.span-steps.result c.requires.filled there c.span-steps.ensures in
    raised_end case box c.set_span.new.ranges row c.args.kind c.requires.filled there c.span-steps.result c.lowest-low.result (c.span-steps.result.hi + 1) c.set_span.ensures
    (raised case box c.set_span.new.ranges row c.args.kind c.requires.filled there c.span-steps.result c.lowest-low.result ends
    c.lowest-low.ensures.within.0 c.lowest-low.ensures.within.1 c.lowest-low.ensures.unmet_below c.set_span.ensures)
    c.lowest-low.ensures.met
