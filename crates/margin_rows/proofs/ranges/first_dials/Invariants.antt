use Rattle.std.proofs.Common.{◌≡◌, ℕ, ◌↔◌, length}
use Rattle.std.specs.Prelude.{slice_get, IfSome}
use Rattle.margin_rows.specs.Box.{IsEmpty, IsIn, IsDialStep, no_steps}
use Rattle.margin_rows.proofs.ranges.first_dials.Given as goal

abbrev pub invariant-loop-relay : goal.invariant-loop-relay
invariant-loop-relay l = record {
  count : length l.spans.items ≡ l.relay-index;
  each : (i step : ℕ) → IfSome (slice_get l.spans.items i) (λ span. IsIn span step ↔ IsDialStep l.inst i step);
  none : (i : ℕ) → IfSome (slice_get l.spans.items i) (λ span. IsEmpty span → span ≡ no_steps);
}
