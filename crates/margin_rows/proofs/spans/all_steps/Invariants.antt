use Rattle.std.proofs.Common.{◌≡◌, ℕ, ◌<◌, length, get_or}
use Rattle.margin_rows.specs.Reach.{steps_of}
use Rattle.margin_rows.proofs.spans.all_steps.Given as goal

abbrev pub invariant-loop-relay : goal.invariant-loop-relay
invariant-loop-relay l = record {
  count : length l.reach.items ≡ l.relay-index;
  each : (i : ℕ) → i < l.relay-index → get_or l.reach.items i 0 ≡ steps_of l.given i;
}
