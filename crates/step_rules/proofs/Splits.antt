-- Where a box can be split.
use Rattle.std.proofs.Common.{◌≡◌, ℕ, ◌+◌, ◌<◌, suc, length, get_or, inl, inr, arith}
use Rattle.std.proofs.lemmas.Bool.{cases_lt}
use Rattle.std.proofs.lemmas.Option.{slice_get-get_or}
use Rattle.margin_rows.specs.Box.{Box, HasNoEmptySpan, no_steps}
use Rattle.margin_rows.specs.Halves.{CanSplit}
use Rattle.margin_rows.specs.Lowest.{HasOnePickup}
use Rattle.margin_rows.proofs.Within.{each_some, some_each}

-- a box that cannot be split has one pickup step for each relay
pub all_single : (box : Box) → HasNoEmptySpan box → ((relay step : ℕ) → relay < length box.pickup → ¬ (CanSplit box relay step)) → HasOnePickup box
all_single box steps none = record {
  each = each_some box.pickup (λ i span. span.past ≡ suc span.low) no_steps (λ i below.
      let span = get_or box.pickup i no_steps in
      let some = some_each box.pickup (λ k s. s.low < s.past) no_steps steps.pickup i below in
      elim (cases_lt (span.low + 1) span.past) [
        | inl more ↦ absurd (none i span.low below (rw (slice_get-get_or box.pickup i no_steps below) (record { from = omega arith; next = more })))
        | inr few ↦ omega (arith, some, few)
      ]);
}
