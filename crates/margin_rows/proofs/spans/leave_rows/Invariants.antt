use Rattle.margin_rows.specs.Reach.{AreReaches}
use Rattle.std.proofs.Common.{take}
use Rattle.margin_rows.proofs.Reached.{UsedBy}
use Rattle.margin_rows.proofs.spans.leave_rows.Given as goal

abbrev pub invariant-loop-row : goal.invariant-loop-row
invariant-loop-row l = AreReaches l.given (UsedBy l.terms (take l.row-index l.rows)) l.reach
