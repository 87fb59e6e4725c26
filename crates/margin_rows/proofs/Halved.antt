-- The halves of a box.
use Rattle.std.specs.Prelude.{slice_get, slice_index}
use Rattle.std.proofs.Common.{◌≡◌, ℕ, ◌+◌, ◌<◌, ◌≤◌, ◌⊎◌, inl, inr, List, length, set, Some, arith, sym, ◌∙◌}
use Rattle.std.proofs.lemmas.Bool.{cases_lt}
use Rattle.std.proofs.lemmas.List.{length-set}
use Rattle.std.proofs.lemmas.Option.{get_or_from_slice_get, slice_get_within}
use Rattle.coord_model.specs.Choice.{Settings}
use Rattle.margin_rows.specs.Box.{Box, AreIn, FitsBox, IsIn, LiesIn, no_steps}
use Rattle.margin_rows.specs.Case.{Case}
use Rattle.margin_rows.specs.FirstBox.{IsFirstStep}
use Rattle.margin_rows.specs.Halves.{HasNext, CanSplit, AreHalves, ShareOut, IsHalf, up_to, above}
use Rattle.margin_rows.specs.Least.{AreFirstPickups}
use Rattle.margin_rows.specs.Within.{IsSpanWithin, IsWithin, with_pickup}
use Rattle.margin_rows.specs.declared.span.Steps.{Steps}
use Rattle.margin_rows.proofs.Placed.{of_some}
use Rattle.margin_rows.proofs.Places.{some_and}
use Rattle.margin_rows.proofs.Within.{each_some, fits_within, lies_within, pickup_within, some_each}
use Rattle.margin_rows.proofs.Written.{each_put, put_found}

-- steps in the spans, where one span is another that has the step too
in_other : (spans : List Steps) (steps : List ℕ) (at : ℕ) (new : Steps) → AreIn spans steps → IsIn new (slice_index steps at) → AreIn (set spans at new) steps
in_other spans steps at new inside here = record {
  count = inside.count ∙ sym (length-set spans at new);
  each = each_put (λ i span. IsIn span (slice_index steps i)) spans at new inside.each here;
}

-- the step of a relay lies in its span
in_span : (spans : List Steps) (steps : List ℕ) (at : ℕ) (span : Steps) → slice_get spans at ≡ Some span → AreIn spans steps → IsIn span (slice_index steps at)
in_span spans steps at span found inside = of_some (slice_get spans at) (λ s. IsIn s (slice_index steps at)) span found (inside.each at)

-- pickups in the spans of a box that fits a case are some of its first box
pub in_first : (case : Case) (box : Box) (pickups : List ℕ) → FitsBox case box → AreIn box.pickup pickups → AreFirstPickups case pickups
in_first case box pickups fits inside = record {
  count = inside.count ∙ fits.pickups;
  each = each_some pickups (λ i step. IsFirstStep case i step) 0 (λ i below.
      let there : i < length box.pickup = omega (arith, below, inside.count) in
      some_each box.pickup (λ k span. IsIn span (slice_index pickups i) → IsFirstStep case k (slice_index pickups i)) no_steps (λ k. fits.pickup k (slice_index pickups i)) i there
      (some_each box.pickup (λ k span. IsIn span (slice_index pickups k)) no_steps inside.each i there));
}

module _ (box : Box) (relay step : ℕ) (span : Steps) (found : slice_get box.pickup relay ≡ Some span) (has : HasNext span step) where
  -- a box with a part of the span that has a step
  half : (part : Steps) → IsSpanWithin part span → part.low < part.past → IsHalf (with_pickup box relay part) box
  half part within some =
      let inside : IsWithin (with_pickup box relay part) box = pickup_within box relay part (slice_get_within box.pickup relay span found) (rw (get_or_from_slice_get box.pickup relay span no_steps found) within) in
      record {
        within = inside;
        steps = λ none. record { pickup = each_put (λ i s. s.low < s.past) box.pickup relay part none.pickup some; dial = none.dial };
        fits = λ case. fits_within case (with_pickup box relay part) box inside;
      }

  low_half : IsHalf (with_pickup box relay (up_to span step)) box
  low_half = half (up_to span step) (record { low = omega arith; past = omega (arith, has.next) }) (omega (arith, has.from))

  high_half : IsHalf (with_pickup box relay (above span step)) box
  high_half = half (above span step) (record { low = omega (arith, has.from); past = omega arith }) (omega (arith, has.next))

  in_one : (settings : Settings) → LiesIn box settings → (slice_index settings.pickup relay < step + 1) ⊎ (step + 1 ≤ slice_index settings.pickup relay)
      → LiesIn (with_pickup box relay (up_to span step)) settings ⊎ LiesIn (with_pickup box relay (above span step)) settings
  in_one settings lies (inl below) =
      inl (record { pickup = in_other box.pickup settings.pickup relay (up_to span step) lies.pickup (record { from = (in_span box.pickup settings.pickup relay span found lies.pickup).from; before = below }); dial = lies.dial })
  in_one settings lies (inr past) =
      inr (record { pickup = in_other box.pickup settings.pickup relay (above span step) lies.pickup (record { from = past; before = (in_span box.pickup settings.pickup relay span found lies.pickup).before }); dial = lies.dial })

  share_out : ShareOut box (with_pickup box relay (up_to span step)) (with_pickup box relay (above span step))
  share_out = record {
    either = λ settings lies. in_one settings lies (cases_lt (slice_index settings.pickup relay) (step + 1));
    not_both = λ settings lower upper.
        let below = in_span (set box.pickup relay (up_to span step)) settings.pickup relay (up_to span step) (put_found box.pickup relay span (up_to span step) found) lower.pickup in
        let past = in_span (set box.pickup relay (above span step)) settings.pickup relay (above span step) (put_found box.pickup relay span (above span step) found) upper.pickup in
        omega (arith, below.before, past.from);
    low_within = λ settings. lies_within (with_pickup box relay (up_to span step)) box settings low_half.within;
    high_within = λ settings. lies_within (with_pickup box relay (above span step)) box settings high_half.within;
  }

-- the halves share out the settings of the box, and are halves of it
pub halves_are : (box lower upper : Box) (relay step : ℕ) → CanSplit box relay step → AreHalves box relay step lower upper → ShareOut box lower upper × (IsHalf lower box × IsHalf upper box)
halves_are box lower upper relay step can are =
    let found = some_and (slice_get box.pickup relay) (λ span. HasNext span step) can in
    let is_low : lower ≡ with_pickup box relay (up_to found.0 step) = rw found.1 at are.low in
    let is_high : upper ≡ with_pickup box relay (above found.0 step) = rw found.1 at are.high in
    rw (is_low, is_high)
    (share_out box relay step found.0 found.1 found.2, (low_half box relay step found.0 found.1 found.2, high_half box relay step found.0 found.1 found.2))
