use Rattle.std.proofs.Common.{◌≡◌, ◌⊎◌, inl, inr, true, sym, ◌∙◌}
use Rattle.box_range.specs.Drops.{none}
use Rattle.box_range.proofs.Places.{listed}
use Rattle.box_range.proofs.Visited.{row_places, busy}
use Rattle.box_range.proofs.round.visit.Goals as goal
use Rattle.box_range.proofs.round.visit.Goals.{then-moved, else-moved}

pub returns-then-not-is_due-2-clause-drops : goal.returns-then-not-is_due-2-clause-drops
returns-then-not-is_due-2-clause-drops c = none

pub flag-requires : goal.flag-requires
flag-requires c =
    let case = c.args.inst.now in
    row_places case c.args.next.now c.args.at.row c.requires.filled.limits (listed case c.args.at.number c.args.at.row c.requires.place) c.requires.places

pub returns-then-moved-2-clause-made : goal.returns-then-moved-2-clause-made
returns-then-moved-2-clause-made c =
    let moved = c.in-Settled.moved in
    let some : (moved.backup ≡ true) ⊎ (moved.primary ≡ true) = elim c.if-moved.branch [
      | then-moved w ↦ inl w.if-moved.true
      | else-moved w ↦ inr (sym w.value-is ∙ c.if-moved-2.true)
    ] in
    busy c.args.inst.now c.args.at.row c.args.ranges.now c.look_at.new.ranges moved c.args.next.now c.flag.new.next c.requires.filled c.in-Settled.ensures.made c.flag.ensures some
