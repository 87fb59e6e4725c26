use Rattle.lp_advice.proofs.Listed.{AreListed}
use Rattle.lp_advice.proofs.duals.listed.Given as goal

abbrev pub invariant-loop-row : goal.invariant-loop-row
invariant-loop-row l = AreListed l.row l.rows.items
