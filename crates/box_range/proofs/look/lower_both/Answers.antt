use Rattle.std.proofs.Common.{inl, inr}
use Rattle.box_range.specs.Settled.{MeetsAtHigh}
use Rattle.box_range.specs.declared.kind.Kind.{Kind}
use Rattle.box_range.specs.declared.kind.Kind.TheVariants.{Pickup}
use Rattle.box_range.proofs.Cuts.{cut_cut, cut_filled, cut_meetable, cut_high_end, both_kinds, uncut}
use Rattle.box_range.proofs.Meets.{high_meets}
use Rattle.box_range.proofs.Places.{asks_primary, listed, relay_counts}
use Rattle.box_range.proofs.look.lower_both.Goals as goal

pub lower-dial-requires-clause-filled : goal.lower-dial-requires-clause-filled
lower-dial-requires-clause-filled c =
    cut_filled c.args.inst.now c.args.at.row c.args.ranges.now c.lower-pickup.new.ranges c.lower-pickup.ensures.cut c.requires.meetable c.requires.filled

pub lower-dial-requires-clause-meetable : goal.lower-dial-requires-clause-meetable
lower-dial-requires-clause-meetable c =
    cut_meetable c.args.inst.now c.args.at.row c.args.ranges.now c.lower-pickup.new.ranges c.lower-pickup.ensures.cut c.requires.meetable

pub returns-then-pickup-clause-cut : goal.returns-then-pickup-clause-cut
returns-then-pickup-clause-cut c = cut_cut c.args.inst.now c.args.at.row c.args.ranges.now c.lower-pickup.new.ranges c.lower-dial.new.ranges c.lower-pickup.ensures.cut c.lower-dial.ensures.cut

pub returns-else-pickup-clause-cut : goal.returns-else-pickup-clause-cut
returns-else-pickup-clause-cut c = cut_cut c.args.inst.now c.args.at.row c.args.ranges.now c.lower-pickup.new.ranges c.lower-dial.new.ranges c.lower-pickup.ensures.cut c.lower-dial.ensures.cut

pub returns-then-pickup-clause-settled : goal.returns-then-pickup-clause-settled
returns-then-pickup-clause-settled c =
    let case = c.args.inst.now in
    let row = c.args.at.row in
    let there = listed case c.args.at.number row c.requires.place in
    let filled = cut_filled case row c.args.ranges.now c.lower-pickup.new.ranges c.lower-pickup.ensures.cut c.requires.meetable c.requires.filled in
    let later = cut_filled case row c.lower-pickup.new.ranges c.lower-dial.new.ranges c.lower-dial.ensures.cut (cut_meetable case row c.args.ranges.now c.lower-pickup.new.ranges c.lower-pickup.ensures.cut c.requires.meetable) filled in
    both_kinds (λ (kind : Kind). MeetsAtHigh case c.lower-dial.new.ranges row kind)
    (cut_high_end case row c.lower-pickup.new.ranges c.lower-dial.new.ranges Pickup ((relay_counts case c.lower-dial.new.ranges row later.fits there).primary Pickup) c.lower-dial.ensures.cut c.lower-pickup.ensures.settled)
    c.lower-dial.ensures.settled

pub returns-else-pickup-clause-settled : goal.returns-else-pickup-clause-settled
returns-else-pickup-clause-settled c =
    let case = c.args.inst.now in
    let row = c.args.at.row in
    let there = listed case c.args.at.number row c.requires.place in
    let filled = cut_filled case row c.args.ranges.now c.lower-pickup.new.ranges c.lower-pickup.ensures.cut c.requires.meetable c.requires.filled in
    let later = cut_filled case row c.lower-pickup.new.ranges c.lower-dial.new.ranges c.lower-dial.ensures.cut (cut_meetable case row c.args.ranges.now c.lower-pickup.new.ranges c.lower-pickup.ensures.cut c.requires.meetable) filled in
    both_kinds (λ (kind : Kind). MeetsAtHigh case c.lower-dial.new.ranges row kind)
    (cut_high_end case row c.lower-pickup.new.ranges c.lower-dial.new.ranges Pickup ((relay_counts case c.lower-dial.new.ranges row later.fits there).primary Pickup) c.lower-dial.ensures.cut c.lower-pickup.ensures.settled)
    c.lower-dial.ensures.settled

pub returns-then-not-asks-clause-cut : goal.returns-then-not-asks-clause-cut
returns-then-not-asks-clause-cut c = uncut c.args.inst.now c.args.at.row c.args.ranges.now

pub returns-then-not-asks-clause-settled : goal.returns-then-not-asks-clause-settled
returns-then-not-asks-clause-settled c =
    let case = c.args.inst.now in
    let row = c.args.at.row in
    let there = listed case c.args.at.number row c.requires.place in
    λ kind. elim (asks_primary case row there) [
      | inl asks ↦ let absurdly = rw c.if-not-asks.true at (c.asks.ensures.1 asks) in cc
      | inr other ↦ high_meets case c.args.ranges.now row c.requires.filled there other.0 other.1 kind c.requires.meetable
    ]
