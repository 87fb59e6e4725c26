use Rattle.std.proofs.Common.{sym, subst}
use Rattle.box_range.specs.Meeting.{AreFirst}
use Rattle.box_range.specs.declared.row.RowSteps.{RowSteps}
use Rattle.box_range.proofs.Meets.{best_first, best_meetable, meetable_best}
use Rattle.box_range.proofs.Places.{listed, relay_counts}
use Rattle.box_range.proofs.row.is_meetable.Goals as goal

pub best-requires-clause-relays : goal.best-requires-clause-relays
best-requires-clause-relays c =
    let case = c.args.inst.now in
    relay_counts case c.args.ranges.now c.args.at.row c.requires.filled.fits (listed case c.args.at.number c.args.at.row c.requires.place)

pub meets-requires-clause-steps : goal.meets-requires-clause-steps
meets-requires-clause-steps c =
    let case = c.args.inst.now in
    subst (λ (s : RowSteps). AreFirst case c.args.at.row s) (sym c.best.ensures)
    (best_first case c.args.ranges.now c.args.at.row c.requires.filled (listed case c.args.at.number c.args.at.row c.requires.place))

pub returns : goal.returns
returns c =
    let case = c.args.inst.now in
    let there = listed case c.args.at.number c.args.at.row c.requires.place in
    let exact = rw c.best.ensures at c.meets.ensures in (
      λ yes. best_meetable case c.args.ranges.now c.args.at.row c.requires.filled there (exact.0 yes),
      λ m. exact.1 (meetable_best case c.args.ranges.now c.args.at.row c.requires.filled there m),
    )
