use Rattle.box_range.proofs.Cuts.{cut_filled, cut_meetable}
use Rattle.box_range.proofs.Looked.{settling}
use Rattle.box_range.proofs.Places.{listed}
use Rattle.box_range.proofs.look.settle.Goals as goal

pub lower_both-primary-requires-clause-filled : goal.lower_both-primary-requires-clause-filled
lower_both-primary-requires-clause-filled c =
    cut_filled c.args.inst.now c.args.at.row c.args.ranges.now c.raise_both-backup.new.ranges c.raise_both-backup.ensures.cut c.requires.meetable c.requires.filled

pub lower_both-primary-requires-clause-meetable : goal.lower_both-primary-requires-clause-meetable
lower_both-primary-requires-clause-meetable c =
    cut_meetable c.args.inst.now c.args.at.row c.args.ranges.now c.raise_both-backup.new.ranges c.raise_both-backup.ensures.cut c.requires.meetable

pub returns : goal.returns
returns c =
    let case = c.args.inst.now in
    let row = c.args.at.row in
    let first = c.raise_both-backup.ensures in
    let second = c.lower_both-primary.ensures in
    settling case row c.args.ranges.now c.raise_both-backup.new.ranges c.lower_both-primary.new.ranges c.raise_both-backup.result c.lower_both-primary.result
    c.requires.filled c.requires.meetable (listed case c.args.at.number row c.requires.place)
    first.cut first.settled first.elsewhere first.unchanged first.fewer second.cut second.settled second.elsewhere second.unchanged second.fewer
