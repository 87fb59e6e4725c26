use Rattle.std.proofs.Common.{◌≡◌, ℕ, ◌<◌, length, get_or}
use Rattle.std.specs.Prelude.{slice_get}
use Rattle.std.specs.Option.{IsSomeAnd}
use Rattle.margin_rows.specs.Tables.{HoldsRun, HoldsRuns}
use Rattle.margin_rows.proofs.runs.term_runs.Given as goal

abbrev pub invariant-loop-term : goal.invariant-loop-term
invariant-loop-term l = record {
  runs : HoldsRuns l.given l.runs;
  count : length l.starts.items ≡ l.term-index;
  each : (k : ℕ) → k < l.term-index → IsSomeAnd (slice_get l.terms k) (λ term. HoldsRun l.given l.runs.times.items term.fault term.relay (get_or l.starts.items k 0));
}
