use Rattle.std.proofs.Common.{ℕ, ◌<◌}
use Rattle.margin_rows.specs.Halves.{CanSplit}
use Rattle.step_rules.proofs.place.first_split.Given as goal

abbrev pub invariant-loop-relay : goal.invariant-loop-relay
invariant-loop-relay l = (earlier step : ℕ) → earlier < l.relay → ¬ (CanSplit l.ranges earlier step)
