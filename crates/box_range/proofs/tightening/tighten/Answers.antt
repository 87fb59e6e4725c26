use Rattle.box_range.proofs.Ended.{ended_tight, ended_empty, ended_emptied, ended_only, ended_fits}
use Rattle.box_range.proofs.Order.{drops_keep, drops_within, none_left}
use Rattle.box_range.proofs.TightLaws.{lowest_loosely}
use Rattle.box_range.proofs.WholeBoxes.{drops_whole}
use Rattle.box_range.proofs.tightening.tighten.Goals as goal

pub returns : goal.returns
returns c =
    let case = c.args.inst.now in
    let box = c.args.ranges.now in
    let later = c.end_drops.new.ranges in
    let end = c.end_drops.ensures in
    record {
      dropped = end.drops;
      tight = ended_tight case box later c.end_drops.result end;
      emptied = ended_emptied case box later c.end_drops.result end;
      empty = ended_empty case box later c.end_drops.result end;
      none = λ gone settings lies meets. none_left case box later settings end.drops (ended_empty case box later c.end_drops.result end gone) lies meets;
      kept = λ settings lies meets. drops_keep case box later settings end.drops lies meets;
      only = ended_only case box later c.end_drops.result end;
      within = drops_within case box later end.drops;
      whole = drops_whole case box later end.drops;
      lowest = λ is one. lowest_loosely case later (ended_fits case box later c.end_drops.result end c.requires) (ended_tight case box later c.end_drops.result end is) one;
      fits = ended_fits case box later c.end_drops.result end c.requires;
    }
