use Rattle.margin_rows.proofs.Summed.{IsAdded}
use Rattle.margin_rows.proofs.sums.add_term.Given as goal

abbrev pub invariant-loop-step : goal.invariant-loop-step
invariant-loop-step l = IsAdded l.given l.term l.low l.step l.initial.sums l.sums
