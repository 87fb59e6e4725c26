-- The shown ends of the spans of a row's relays.
use Rattle.std.specs.Prelude.{slice_get, IsSomeAnd}
use Rattle.std.specs.List.{Contains}
use Rattle.std.proofs.Common.{◌≡◌, ℕ, ◌+◌, ◌-◌, ◌<◌, ◌≤◌, Option, Some, None, length, arith, refl}
use Rattle.std.proofs.lemmas.List.Elements.{All-contains}
use Rattle.coord_model.specs.Allowed.{IsSensible}
use Rattle.coord_model.specs.PartLimits.{FitsRelay}
use Rattle.coord_model.specs.declared.study.Relay.{Relay}
use Rattle.coord_model.specs.declared.study.Row.{Row}
use Rattle.margin_rows.specs.Box.{Box, IsIn, IsShownAs, IsDialStep, IsFilled, no_steps}
use Rattle.margin_rows.specs.Case.{Case, rows_in, FitsCase}
use Rattle.margin_rows.specs.FirstBox.{IsFirstStep}
use Rattle.margin_rows.specs.declared.span.Span.{Span}
use Rattle.margin_rows.specs.declared.span.Steps.{Steps}
use Rattle.margin_rows.proofs.Placed.{found_listed}
use Rattle.box_range.specs.Kinds.{spans_of, span_at}
use Rattle.box_range.specs.Meeting.{relay_of}
use Rattle.box_range.specs.declared.kind.Kind.{Kind}
use Rattle.box_range.specs.declared.kind.Kind.TheVariants.{Pickup, Dial}
use Rattle.box_range.specs.declared.row.Part.{Part}
use Rattle.box_range.proofs.Meets.{relay_below}
use Rattle.box_range.proofs.Spans.{has_steps}
use Rattle.margin_rows.proofs.Within.{some_each}

pickup_few : (case : Case) (relay step : ℕ) → FitsCase case → IsFirstStep case relay step → step < 4000
pickup_few case relay step fits is = go (slice_get case.study.relays relay) refl is
  where
    go : (o : Option Relay) → slice_get case.study.relays relay ≡ o
        → IsSomeAnd o (λ r. (step < r.plug_count) × IsSensible case.study case.currents relay r step) → step < 4000
    go None found is = absurd is
    go (Some r) found is =
        let fit = All-contains (FitsRelay case.study) case.study.relays r fits.study.relays (found_listed case.study.relays relay r found) in
        omega (arith, is.0, fit.plug_count.at_most)

dial_few : (case : Case) (relay step : ℕ) → FitsCase case → IsDialStep case relay step → step < 4000
dial_few case relay step fits is = go (slice_get case.study.relays relay) refl is
  where
    go : (o : Option Relay) → slice_get case.study.relays relay ≡ o → IsSomeAnd o (λ r. step < r.dial_count) → step < 4000
    go None found is = absurd is
    go (Some r) found is =
        let fit = All-contains (FitsRelay case.study) case.study.relays r fits.study.relays (found_listed case.study.relays relay r found) in
        omega (arith, is, fit.dial_count.at_most)

step_few : (case : Case) (box : Box) (kind : Kind) (relay step : ℕ) → IsFilled case box → relay < length (spans_of kind box) → IsIn (span_at kind box relay) step → step < 4000
step_few case box Pickup relay step filled below is =
    pickup_few case relay step filled.limits (some_each box.pickup (λ i span. IsIn span step → IsFirstStep case i step) no_steps (λ i. filled.fits.pickup i step) relay below is)
step_few case box Dial relay step filled below is =
    dial_few case relay step filled.limits (some_each box.dial (λ i span. IsIn span step → IsDialStep case i step) no_steps (λ i. filled.fits.dial i step) relay below is)

-- the shown ends are those of the span, in order and small
pub record AreEnds (span : Steps) (shown : Span) : Type 0 where
  pub low : shown.lo ≡ span.low
  pub high : span.past - 1 ≡ shown.hi
  pub past : shown.hi + 1 ≡ span.past
  pub ordered : shown.lo ≤ shown.hi
  pub few : shown.hi < 4000
  pub low_in : IsIn span shown.lo
  pub high_in : IsIn span shown.hi

pub shown_ends : (case : Case) (box : Box) (row : Row) (part : Part) (kind : Kind) (shown : Span) → IsFilled case box → Contains (rows_in case) row
    → IsShownAs (span_at kind box (relay_of part row)) shown → AreEnds (span_at kind box (relay_of part row)) shown
shown_ends case box row part kind shown filled there is =
    let span = span_at kind box (relay_of part row) in
    let below = relay_below case box row filled there part kind in
    let some = has_steps box kind (relay_of part row) filled.steps below in
    let ends = is.steps some in
    let last : IsIn span shown.hi = record { from = omega (arith, ends.1, some); before = omega (arith, ends.1) } in
    record {
      low = ends.0;
      high = omega (arith, ends.1);
      past = omega (arith, ends.1);
      ordered = omega (arith, ends.0, ends.1, some);
      few = step_few case box kind (relay_of part row) shown.hi filled below last;
      low_in = record { from = omega (arith, ends.0); before = omega (arith, ends.0, some) };
      high_in = last;
    }
