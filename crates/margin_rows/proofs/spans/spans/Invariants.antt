use Rattle.std.proofs.Common.{◌≡◌, ℕ, ◌<◌, length}
use Rattle.std.specs.Prelude.{slice_get}
use Rattle.std.specs.Option.{IsSomeAnd}
use Rattle.margin_rows.specs.FirstBox.{IsFirstSpanOf}
use Rattle.margin_rows.proofs.spans.spans.Given as goal

abbrev pub invariant-loop-relay : goal.invariant-loop-relay
invariant-loop-relay l = record {
  count : length l.spans.items ≡ l.relay;
  each : (i : ℕ) → i < l.relay → IsSomeAnd (slice_get l.spans.items i) (IsFirstSpanOf l.given i);
}
