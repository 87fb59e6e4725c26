-- A row's span written anew without its useless steps.
use Rattle.std.specs.List.{Contains}
use Rattle.std.proofs.Common.{◌≡◌, ℕ, ◌+◌, ◌-◌, ◌<◌, ◌≤◌, arith, ap}
use Rattle.coord_model.specs.declared.study.Row.{Row}
use Rattle.margin_rows.specs.Box.{Box, IsFilled}
use Rattle.margin_rows.specs.Case.{Case, rows_in}
use Rattle.margin_rows.specs.declared.span.Span.{Span}
use Rattle.margin_rows.specs.declared.span.Steps.{Steps}
use Rattle.box_range.specs.Drops.{CanMeet}
use Rattle.box_range.specs.Kinds.{span_at, with_span}
use Rattle.box_range.specs.Settled.{IsCut, MeetsAtLow, MeetsAtHigh}
use Rattle.box_range.specs.declared.kind.Kind.{Kind}
use Rattle.box_range.proofs.Cuts.{cut_low, cut_high, cut_can}
use Rattle.box_range.proofs.Places.{relay_counts}
use Rattle.box_range.proofs.Shown.{AreEnds}
use Rattle.box_range.proofs.Spans.{with_same}

module _ (case : Case) (box later : Box) (row : Row) (kind : Kind) (filled : IsFilled case box) (there : Contains (rows_in case) row) (shown : Span) where
  pub raised : (low : ℕ) → AreEnds (span_at kind box row.backup) shown → shown.lo ≤ low → low ≤ shown.hi
      → ((step : ℕ) → shown.lo ≤ step → step < low → ¬ (CanMeet case box kind row.backup step row))
      → later ≡ with_span kind box row.backup (record { low = low; past = shown.hi + 1 }) → IsCut case row box later
  raised low ends from to unmet is =
      rw is (rw ends.past (cut_low case box row kind low filled.fits there (omega (arith, ends.low, from)) (omega (arith, ends.past, to))
      (λ step after before. unmet step (omega (arith, ends.low, after)) before)))

  pub raised_end : (low past : ℕ) → later ≡ with_span kind box row.backup (record { low = low; past = past }) → IsCut case row box later
      → CanMeet case box kind row.backup low row → MeetsAtLow case later row kind
  raised_end low past is cut m =
      let at : (span_at kind later row.backup).low ≡ low =
      rw is (ap (λ (s : Steps). s.low) (with_same kind box row.backup (record { low = low; past = past }) ((relay_counts case box row filled.fits there).backup kind))) in
      rw at (cut_can case row box later kind row.backup low cut m)

  pub lowered : (high : ℕ) → AreEnds (span_at kind box row.primary) shown → shown.lo ≤ high → high ≤ shown.hi
      → ((step : ℕ) → high < step → step ≤ shown.hi → ¬ (CanMeet case box kind row.primary step row))
      → later ≡ with_span kind box row.primary (record { low = shown.lo; past = high + 1 }) → IsCut case row box later
  lowered high ends from to unmet is =
      rw is (rw ends.low (cut_high case box row kind (high + 1) filled.fits there (omega (arith, ends.low, from)) (omega (arith, ends.past, to))
      (λ step after before. unmet step (omega (arith, after)) (omega (arith, ends.past, before)))))

  pub lowered_end : (low high : ℕ) → later ≡ with_span kind box row.primary (record { low = low; past = high + 1 }) → IsCut case row box later
      → CanMeet case box kind row.primary high row → MeetsAtHigh case later row kind
  lowered_end low high is cut m =
      let at : (span_at kind later row.primary).past ≡ high + 1 =
      rw is (ap (λ (s : Steps). s.past) (with_same kind box row.primary (record { low = low; past = high + 1 }) ((relay_counts case box row filled.fits there).primary kind))) in
      let last : (span_at kind later row.primary).past - 1 ≡ high = omega (arith, at) in
      rw last (cut_can case row box later kind row.primary high cut m)
