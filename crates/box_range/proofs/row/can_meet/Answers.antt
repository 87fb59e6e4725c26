use Rattle.std.proofs.Common.{sym, subst}
use Rattle.box_range.specs.Meeting.{AreFirst}
use Rattle.box_range.specs.declared.row.RowSteps.{RowSteps}
use Rattle.box_range.proofs.Meets.{with_first, with_can, can_with}
use Rattle.box_range.proofs.Places.{listed, relay_counts}
use Rattle.box_range.proofs.row.can_meet.Goals as goal

pub best-requires-clause-relays : goal.best-requires-clause-relays
best-requires-clause-relays c =
    let case = c.args.inst.now in
    relay_counts case c.args.ranges.now c.args.at.row c.requires.filled.fits (listed case c.args.at.number c.args.at.row c.requires.place)

pub meets-requires-clause-steps : goal.meets-requires-clause-steps
meets-requires-clause-steps c =
    let case = c.args.inst.now in
    subst (λ (s : RowSteps). AreFirst case c.args.at.row s) (sym (rw c.best.ensures at c.with_step.ensures))
    (with_first case c.args.ranges.now c.args.at.row c.requires.filled (listed case c.args.at.number c.args.at.row c.requires.place) c.args.part c.args.kind c.args.step c.requires.step)

pub returns : goal.returns
returns c =
    let case = c.args.inst.now in
    let there = listed case c.args.at.number c.args.at.row c.requires.place in
    let steps = rw c.best.ensures at c.with_step.ensures in
    let exact = rw steps at c.meets.ensures in (
      λ yes. with_can case c.args.ranges.now c.args.at.row c.requires.filled there c.args.part c.args.kind c.args.step c.requires.asks c.requires.step (exact.0 yes),
      λ m. exact.1 (can_with case c.args.ranges.now c.args.at.row c.requires.filled there c.args.part c.args.kind c.args.step m),
    )
