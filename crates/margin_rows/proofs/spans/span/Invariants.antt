use Rattle.std.proofs.Common.{ℕ, ◌<◌}
use Rattle.margin_rows.specs.Reach.{ClearsAt}
use Rattle.margin_rows.proofs.spans.span.Given as goal

abbrev pub invariant-loop-step : goal.invariant-loop-step
invariant-loop-step l = (k : ℕ) → k < l.step → ClearsAt l.given l.relay k → ⊥
