use Rattle.std.proofs.Common.{ℕ, ◌<◌, ◌≤◌}
use Rattle.margin_rows.specs.Reach.{SensesAt}
use Rattle.margin_rows.proofs.spans.sensing.Given as goal

abbrev pub invariant-loop-past : goal.invariant-loop-past
invariant-loop-past l = record {
  within : l.past ≤ l.fn.reach;
  blind : (step : ℕ) → l.past ≤ step → step < l.fn.reach → SensesAt l.given l.fault l.relay step → ⊥;
}

abbrev pub decreases-loop-past : goal.decreases-loop-past
decreases-loop-past l = l.past
