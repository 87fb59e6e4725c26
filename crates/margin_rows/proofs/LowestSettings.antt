-- The lowest settings of a box.
use Rattle.std.specs.Prelude.{slice_get, slice_index}
use Rattle.std.specs.Option.{IfSome, IsSomeAnd}
use Rattle.std.proofs.Common.{ap, ◌≡◌, ℕ, suc, ◌<◌, ◌≤◌, inl, inr, List, length, map, arith, sym, ◌∙◌}
use Rattle.std.proofs.lemmas.Bool.{cases_lt}
use Rattle.std.proofs.lemmas.List.{ext_get_or, get_or-map, get_or_past, length-map}
use Rattle.std.proofs.lemmas.Option.{get_or_from_slice_get, slice_get_within}
use Rattle.coord_model.specs.Choice.{Settings}
use Rattle.margin_rows.specs.Box.{Box, AreIn, FitsBox, HasNoEmptySpan, IsIn, IsShownAs, LiesIn, no_steps}
use Rattle.margin_rows.specs.Case.{Case}
use Rattle.margin_rows.specs.FirstBox.{IsInFirstBox}
use Rattle.margin_rows.specs.Lowest.{HasOnePickup, lowest_of}
use Rattle.margin_rows.specs.declared.span.Span.{Span}
use Rattle.margin_rows.specs.declared.span.Steps.{Steps}
use Rattle.margin_rows.proofs.Inside.{box_lies_first}
use Rattle.margin_rows.proofs.Placed.{of_some}
use Rattle.margin_rows.proofs.Places.{some_and}
use Rattle.margin_rows.proofs.Within.{each_some, some_each}

-- the lowest steps of spans lie in them
lows_in : (spans : List Steps) → ((i : ℕ) → IfSome (slice_get spans i) (λ span. span.low < span.past)) → AreIn spans (map (λ (span : Steps). span.low) spans)
lows_in spans some = record {
  count = length-map spans (λ (span : Steps). span.low);
  each = each_some spans (λ i span. IsIn span (slice_index (map (λ (s : Steps). s.low) spans) i)) no_steps (λ i below.
      rw (get_or-map (λ (s : Steps). s.low) spans i no_steps 0 below) (record { from = omega arith; before = some_each spans (λ k span. span.low < span.past) no_steps some i below }));
}

-- the first step of a shown span is the lowest
pub low_shown : (spans : List Steps) (relay : ℕ) (shown : Span) → ((i : ℕ) → IfSome (slice_get spans i) (λ span. span.low < span.past)) → IsSomeAnd (slice_get spans relay) (λ span. IsShownAs span shown)
    → shown.lo ≡ slice_index (map (λ (span : Steps). span.low) spans) relay
low_shown spans relay shown some is =
    let there = some_and (slice_get spans relay) (λ span. IsShownAs span shown) is in
    let below = slice_get_within spans relay there.0 there.1 in
    let has = of_some (slice_get spans relay) (λ span. span.low < span.past) there.0 there.1 (some relay) in
    (there.2.steps has).0 ∙ sym (get_or-map (λ (s : Steps). s.low) spans relay there.0 0 below ∙ ap (λ (s : Steps). s.low) (get_or_from_slice_get spans relay there.0 there.0 there.1))

pub lowest_lies : (box : Box) → HasNoEmptySpan box → LiesIn box (lowest_of box)
lowest_lies box some = record { pickup = lows_in box.pickup some.pickup; dial = lows_in box.dial some.dial }

pub lowest_first : (case : Case) (box : Box) → FitsBox case box → HasNoEmptySpan box → IsInFirstBox case (lowest_of box)
lowest_first case box fits some = box_lies_first case box (lowest_of box) fits (lowest_lies box some)

-- no settings of the box have a dial below theirs
pub none_below : (box : Box) (settings : Settings) → LiesIn box settings → (i : ℕ) → slice_index (lowest_of box).dial i ≤ slice_index settings.dial i
none_below box settings lies i = elim (cases_lt i (length box.dial)) [
  | inl below ↦ rw (get_or-map (λ (s : Steps). s.low) box.dial i no_steps 0 below) (some_each box.dial (λ k span. IsIn span (slice_index settings.dial k)) no_steps lies.dial.each i below).from
  | inr past ↦
      let none : slice_index (lowest_of box).dial i ≡ 0 = get_or_past {X = ℕ} (map (λ (s : Steps). s.low) box.dial) i 0 (omega (arith, past, length-map box.dial (λ (s : Steps). s.low))) in
      omega (arith, none)
]

-- settings of a box with one pickup step for each relay have those pickups
pub same_pickups : (box : Box) (settings : Settings) → HasOnePickup box → LiesIn box settings → settings.pickup ≡ (lowest_of box).pickup
same_pickups box settings one lies =
    ext_get_or 0 settings.pickup (lowest_of box).pickup (lies.pickup.count ∙ sym (length-map box.pickup (λ (s : Steps). s.low))) (λ i within.
    let below : i < length box.pickup = omega (arith, within, lies.pickup.count) in
    let is = some_each box.pickup (λ k span. IsIn span (slice_index settings.pickup k)) no_steps lies.pickup.each i below in
    let single = some_each box.pickup (λ k span. span.past ≡ suc span.low) no_steps one.each i below in
    rw (get_or-map (λ (s : Steps). s.low) box.pickup i no_steps 0 below) (omega (arith, is.from, is.before, single)))
