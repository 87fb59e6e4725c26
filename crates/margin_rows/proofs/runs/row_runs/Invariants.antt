use Rattle.std.proofs.Common.{◌≡◌, ℕ, ◌<◌, length}
use Rattle.std.specs.Prelude.{slice_get}
use Rattle.std.specs.Option.{IsSomeAnd}
use Rattle.margin_rows.specs.Tables.{Extends, HoldsRun, HoldsRuns}
use Rattle.margin_rows.proofs.runs.row_runs.Given as goal

abbrev pub invariant-loop-row : goal.invariant-loop-row
invariant-loop-row l = record {
  runs : HoldsRuns l.given l.runs;
  extends : Extends l.initial.runs.times.items l.runs.times.items;
  count : length l.starts.items ≡ l.row-index;
  each : (k : ℕ) → k < l.row-index → IsSomeAnd (slice_get l.rows k) (λ row. IsSomeAnd (slice_get l.starts.items k)
      (λ at. HoldsRun l.given l.runs.times.items row.fault row.backup at.backup × HoldsRun l.given l.runs.times.items row.fault row.primary at.primary));
}
