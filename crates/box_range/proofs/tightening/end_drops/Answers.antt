use Rattle.box_range.specs.Drops.{none}
use Rattle.box_range.proofs.tightening.end_drops.Goals as goal

pub returns-then-has_empty_span : goal.returns-then-has_empty_span
returns-then-has_empty_span c = record { drops = none; at_end = c.has_empty_span.ensures.empty c.if-has_empty_span.true }
