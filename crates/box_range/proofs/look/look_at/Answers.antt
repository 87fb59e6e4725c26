use Rattle.box_range.specs.declared.kind.Kind.TheVariants.{Dial}
use Rattle.box_range.specs.declared.row.Part.TheVariants.{Primary}
use Rattle.box_range.proofs.Looked.{cleared_drops, cleared_empty}
use Rattle.box_range.proofs.Meets.{relay_below}
use Rattle.box_range.proofs.Places.{listed}
use Rattle.box_range.proofs.look.look_at.Goals as goal

pub clear-requires-clause-relay : goal.clear-requires-clause-relay
clear-requires-clause-relay c =
    let case = c.args.inst.now in
    relay_below case c.args.ranges.now c.args.at.row c.requires.filled (listed case c.args.at.number c.args.at.row c.requires.place) Primary Dial

pub returns-else-is_meetable-clause-drops : goal.returns-else-is_meetable-clause-drops
returns-else-is_meetable-clause-drops c =
    let case = c.args.inst.now in
    cleared_drops case c.args.ranges.now c.clear.new.ranges c.args.at.row c.requires.filled (listed case c.args.at.number c.args.at.row c.requires.place) c.clear.ensures
    (λ m. let absurdly = rw c.if-is_meetable.false at (c.is_meetable.ensures.1 m) in cc)

pub returns-else-is_meetable-clause-made : goal.returns-else-is_meetable-clause-made
returns-else-is_meetable-clause-made c =
    let case = c.args.inst.now in
    cleared_empty case c.args.ranges.now c.clear.new.ranges c.args.at.row c.requires.filled (listed case c.args.at.number c.args.at.row c.requires.place) c.clear.ensures
