use Rattle.std.proofs.Common.{inl, inr}
use Rattle.box_range.specs.Settled.{MeetsAtLow}
use Rattle.box_range.specs.declared.kind.Kind.{Kind}
use Rattle.box_range.specs.declared.kind.Kind.TheVariants.{Pickup}
use Rattle.box_range.proofs.Cuts.{cut_cut, cut_filled, cut_meetable, cut_low_end, both_kinds, uncut}
use Rattle.box_range.proofs.Meets.{low_meets}
use Rattle.box_range.proofs.Places.{asks_backup, listed, relay_counts}
use Rattle.box_range.proofs.look.raise_both.Goals as goal

pub raise-dial-requires-clause-filled : goal.raise-dial-requires-clause-filled
raise-dial-requires-clause-filled c =
    cut_filled c.args.inst.now c.args.at.row c.args.ranges.now c.raise-pickup.new.ranges c.raise-pickup.ensures.cut c.requires.meetable c.requires.filled

pub raise-dial-requires-clause-meetable : goal.raise-dial-requires-clause-meetable
raise-dial-requires-clause-meetable c =
    cut_meetable c.args.inst.now c.args.at.row c.args.ranges.now c.raise-pickup.new.ranges c.raise-pickup.ensures.cut c.requires.meetable

pub returns-then-pickup-clause-cut : goal.returns-then-pickup-clause-cut
returns-then-pickup-clause-cut c = cut_cut c.args.inst.now c.args.at.row c.args.ranges.now c.raise-pickup.new.ranges c.raise-dial.new.ranges c.raise-pickup.ensures.cut c.raise-dial.ensures.cut

pub returns-else-pickup-clause-cut : goal.returns-else-pickup-clause-cut
returns-else-pickup-clause-cut c = cut_cut c.args.inst.now c.args.at.row c.args.ranges.now c.raise-pickup.new.ranges c.raise-dial.new.ranges c.raise-pickup.ensures.cut c.raise-dial.ensures.cut

pub returns-then-pickup-clause-settled : goal.returns-then-pickup-clause-settled
returns-then-pickup-clause-settled c =
    let case = c.args.inst.now in
    let row = c.args.at.row in
    let there = listed case c.args.at.number row c.requires.place in
    let filled = cut_filled case row c.args.ranges.now c.raise-pickup.new.ranges c.raise-pickup.ensures.cut c.requires.meetable c.requires.filled in
    let later = cut_filled case row c.raise-pickup.new.ranges c.raise-dial.new.ranges c.raise-dial.ensures.cut (cut_meetable case row c.args.ranges.now c.raise-pickup.new.ranges c.raise-pickup.ensures.cut c.requires.meetable) filled in
    both_kinds (λ (kind : Kind). MeetsAtLow case c.raise-dial.new.ranges row kind)
    (cut_low_end case row c.raise-pickup.new.ranges c.raise-dial.new.ranges Pickup ((relay_counts case c.raise-dial.new.ranges row later.fits there).backup Pickup) c.raise-dial.ensures.cut c.raise-pickup.ensures.settled)
    c.raise-dial.ensures.settled

pub returns-else-pickup-clause-settled : goal.returns-else-pickup-clause-settled
returns-else-pickup-clause-settled c =
    let case = c.args.inst.now in
    let row = c.args.at.row in
    let there = listed case c.args.at.number row c.requires.place in
    let filled = cut_filled case row c.args.ranges.now c.raise-pickup.new.ranges c.raise-pickup.ensures.cut c.requires.meetable c.requires.filled in
    let later = cut_filled case row c.raise-pickup.new.ranges c.raise-dial.new.ranges c.raise-dial.ensures.cut (cut_meetable case row c.args.ranges.now c.raise-pickup.new.ranges c.raise-pickup.ensures.cut c.requires.meetable) filled in
    both_kinds (λ (kind : Kind). MeetsAtLow case c.raise-dial.new.ranges row kind)
    (cut_low_end case row c.raise-pickup.new.ranges c.raise-dial.new.ranges Pickup ((relay_counts case c.raise-dial.new.ranges row later.fits there).backup Pickup) c.raise-dial.ensures.cut c.raise-pickup.ensures.settled)
    c.raise-dial.ensures.settled

pub returns-then-not-asks-clause-cut : goal.returns-then-not-asks-clause-cut
returns-then-not-asks-clause-cut c = uncut c.args.inst.now c.args.at.row c.args.ranges.now

pub returns-then-not-asks-clause-settled : goal.returns-then-not-asks-clause-settled
returns-then-not-asks-clause-settled c =
    let case = c.args.inst.now in
    let row = c.args.at.row in
    let there = listed case c.args.at.number row c.requires.place in
    λ kind. elim (asks_backup case row there) [
      | inl asks ↦ let absurdly = rw c.if-not-asks.true at (c.asks.ensures.1 asks) in cc
      | inr other ↦ low_meets case c.args.ranges.now row c.requires.filled there other.0 other.1 kind c.requires.meetable
    ]
