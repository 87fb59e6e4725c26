use Rattle.std.proofs.Common.{◌+◌, sym, subst, Bool}
use Rattle.box_range.proofs.Order.{drops_drops}
use Rattle.box_range.proofs.Rounded.{IsUpTo, round_begins, up_to_idle, up_to_busy, up_to_most, round_moved, round_kept}
use Rattle.box_range.proofs.round.round.Goals as goal
use Rattle.box_range.proofs.round.round.Goals.{in-Kept, in-Advanced}

pub loop-number-init : goal.loop-number-init
loop-number-init c = round_begins c.args.inst.now c.args.ranges.now c.args.due.now c.args.next.now c.requires.filled c.requires.places c.requires.rest

pub returns-in-Emptied-clause-drops : goal.returns-in-Emptied-clause-drops
returns-in-Emptied-clause-drops c =
    drops_drops c.args.inst.now c.args.ranges.now c.loop-number.ranges c.visit.new.ranges c.loop-number.invariant.drops c.in-Emptied.ensures.drops

pub loop-number-preserved : goal.loop-number-preserved
loop-number-preserved c =
    let case = c.args.inst.now in
    let start = c.args.ranges.now in
    let box = c.loop-number.ranges in
    let later = c.visit.new.ranges in
    let due = c.args.due.now in
    let begun = c.args.next.now in
    let flags = c.loop-number.next in
    let later_flags = c.visit.new.next in
    let number = c.loop-number.number in
    let moved = c.loop-number.moved in
    let so = c.loop-number.invariant in
    elim c.match-visit.branch [
      | in-Kept w ↦ subst (λ (b : Bool). IsUpTo case start later due begun later_flags b (number + 1)) (sym w.moved-is)
          (up_to_idle case start box later due begun flags later_flags moved number c.place.result.row c.place.ensures.row so w.in-Kept.ensures.drops w.in-Kept.ensures.made)
      | in-Advanced w ↦ subst (λ (b : Bool). IsUpTo case start later due begun later_flags b (number + 1)) (sym w.moved-is)
          (up_to_busy case start box later due begun flags later_flags moved number c.place.result.row c.place.ensures.row so w.in-Advanced.ensures.drops w.in-Advanced.ensures.made
          (up_to_most case start box due begun flags moved number so))
    ]

pub returns-then-moved-clause-made : goal.returns-then-moved-clause-made
returns-then-moved-clause-made c =
    round_moved c.args.inst.now c.args.ranges.now c.loop-number.ranges c.args.due.now c.args.next.now c.loop-number.next c.loop-number.number
    (rw c.if-moved.true at c.loop-number.invariant) (rw c.requires.rows at c.loop-number-test.false)

pub returns-else-moved-clause-made : goal.returns-else-moved-clause-made
returns-else-moved-clause-made c =
    round_kept c.args.inst.now c.args.ranges.now c.loop-number.ranges c.args.due.now c.args.next.now c.loop-number.next c.loop-number.number
    (rw c.if-moved.false at c.loop-number.invariant) (rw c.requires.rows at c.loop-number-test.false) c.requires.none
