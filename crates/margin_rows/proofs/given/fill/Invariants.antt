use Rattle.std.proofs.Common.{take}
use Rattle.margin_rows.specs.Given.{HoldsAmps}
use Rattle.margin_rows.proofs.given.fill.Given as goal

abbrev pub invariant-loop-entry : goal.invariant-loop-entry
invariant-loop-entry l = HoldsAmps l.relays (take l.entry-index l.entries) l.table
