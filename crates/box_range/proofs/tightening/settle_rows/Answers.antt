use Rattle.std.proofs.Common.{sym, subst}
use Rattle.margin_rows.specs.Box.{Box, IsFilled}
use Rattle.box_range.specs.Drops.{none}
use Rattle.box_range.proofs.Begun.{all_due, none_flagged}
use Rattle.box_range.proofs.Order.{drops_drops}
use Rattle.box_range.proofs.Tight.{tight_of}
use Rattle.box_range.proofs.tightening.settle_rows.Goals as goal

pub rounds-init : goal.rounds-init
rounds-init c = record {
  drops = none;
  filled = c.requires.filled;
  rest = λ row there. all_due c.args.inst.now c.args.ranges.now row c.requires.filled.limits there;
}

pub round-requires-clause-none : goal.round-requires-clause-none
round-requires-clause-none c = none_flagged

pub returns-in-Emptied : goal.returns-in-Emptied
returns-in-Emptied c = record {
  drops = drops_drops c.args.inst.now c.args.ranges.now c.rounds.ranges c.round.new.ranges c.rounds.invariant.drops c.in-Emptied.ensures.drops;
  at_end = c.in-Emptied.ensures.made;
}

pub returns-in-Kept : goal.returns-in-Kept
returns-in-Kept c =
    let filled = subst (λ (b : Box). IsFilled c.args.inst.now b) (sym c.in-Kept.ensures.made.0) c.rounds.invariant.filled in
    record {
      drops = drops_drops c.args.inst.now c.args.ranges.now c.rounds.ranges c.round.new.ranges c.rounds.invariant.drops c.in-Kept.ensures.drops;
      at_end = tight_of c.args.inst.now c.round.new.ranges filled c.in-Kept.ensures.made.1;
    }

pub rounds-preserved : goal.rounds-preserved
rounds-preserved c = record {
  drops = drops_drops c.args.inst.now c.args.ranges.now c.rounds.ranges c.round.new.ranges c.rounds.invariant.drops c.in-Advanced.ensures.drops;
  filled = c.in-Advanced.ensures.made.filled;
  rest = c.in-Advanced.ensures.made.rest;
}
