-- Reading the spans of a box and the steps of settings, and writing a span.
use Rattle.std.specs.Prelude.{slice_get, slice_index}
use Rattle.std.proofs.Common.{◌≡◌, ◌≢◌, ℕ, ◌<◌, ◌⊎◌, inl, inr, List, length, refl, sym, ap, subst}
use Rattle.std.proofs.lemmas.Bool.{cases_eq}
use Rattle.std.proofs.lemmas.List.{length-set, get_or-set_same, get_or-set_other, set-set, set-get_or}
use Rattle.std.proofs.lemmas.Option.{slice_get-get_or, slice_get_within, get_or_from_slice_get}
use Rattle.coord_model.specs.Choice.{Settings}
use Rattle.margin_rows.specs.Box.{Box, HasEmptySpan, IsEmpty, IsIn, LiesIn, HasNoEmptySpan, no_steps}
use Rattle.margin_rows.specs.declared.span.Steps.{Steps}
use Rattle.margin_rows.proofs.Places.{and_some, some_and}
use Rattle.margin_rows.proofs.Within.{each_some, some_each}
use Rattle.box_range.specs.Kinds.{spans_of, step_of, with_span, span_at, HasSpan}
use Rattle.box_range.specs.declared.kind.Kind.{Kind}
use Rattle.box_range.specs.declared.kind.Kind.TheVariants.{Pickup, Dial}

pub has_span : (box : Box) (kind : Kind) (relay : ℕ) (span : Steps) → HasSpan box kind relay span
    → (relay < length (spans_of kind box)) × (span_at kind box relay ≡ span)
has_span box kind relay span h =
    (slice_get_within (spans_of kind box) relay span h, get_or_from_slice_get (spans_of kind box) relay span no_steps h)

pub span_has : (box : Box) (kind : Kind) (relay : ℕ) → relay < length (spans_of kind box) → HasSpan box kind relay (span_at kind box relay)
span_has box kind relay below = slice_get-get_or (spans_of kind box) relay no_steps below

pub has_steps : (box : Box) (kind : Kind) (relay : ℕ) → HasNoEmptySpan box → relay < length (spans_of kind box) → (span_at kind box relay).low < (span_at kind box relay).past
has_steps box Pickup relay h below = some_each box.pickup (λ i span. span.low < span.past) no_steps h.pickup relay below
has_steps box Dial relay h below = some_each box.dial (λ i span. span.low < span.past) no_steps h.dial relay below

pub steps_have : (box : Box) → ((kind : Kind) (relay : ℕ) → relay < length (spans_of kind box) → (span_at kind box relay).low < (span_at kind box relay).past) → HasNoEmptySpan box
steps_have box h = record {
  pickup = each_some box.pickup (λ i span. span.low < span.past) no_steps (h Pickup);
  dial = each_some box.dial (λ i span. span.low < span.past) no_steps (h Dial);
}

pub lies_at : (box : Box) (settings : Settings) (kind : Kind) (relay : ℕ) → LiesIn box settings → relay < length (spans_of kind box)
    → IsIn (span_at kind box relay) (step_of kind settings relay)
lies_at box settings Pickup relay h below = some_each box.pickup (λ i span. IsIn span (slice_index settings.pickup i)) no_steps h.pickup.each relay below
lies_at box settings Dial relay h below = some_each box.dial (λ i span. IsIn span (slice_index settings.dial i)) no_steps h.dial.each relay below

-- settings lie in a box of as many spans where each step lies in its span
pub lies : (box : Box) (settings : Settings) → length settings.pickup ≡ length box.pickup → length settings.dial ≡ length box.dial
    → ((kind : Kind) (relay : ℕ) → relay < length (spans_of kind box) → IsIn (span_at kind box relay) (step_of kind settings relay)) → LiesIn box settings
lies box settings pickups dials each = record {
  pickup = record { count = pickups; each = each_some box.pickup (λ i span. IsIn span (slice_index settings.pickup i)) no_steps (each Pickup) };
  dial = record { count = dials; each = each_some box.dial (λ i span. IsIn span (slice_index settings.dial i)) no_steps (each Dial) };
}

-- an empty span of a box is a pickup span or a dial span
pub empty_at : (box : Box) → HasEmptySpan box → (kind : Kind) × (relay : ℕ) × (relay < length (spans_of kind box)) × IsEmpty (span_at kind box relay)
empty_at box (inl (i, fact)) =
    let found = some_and (slice_get box.pickup i) IsEmpty fact in
    (Pickup, i, slice_get_within box.pickup i found.0 found.1, rw (get_or_from_slice_get box.pickup i found.0 no_steps found.1) found.2)
empty_at box (inr (i, fact)) =
    let found = some_and (slice_get box.dial i) IsEmpty fact in
    (Dial, i, slice_get_within box.dial i found.0 found.1, rw (get_or_from_slice_get box.dial i found.0 no_steps found.1) found.2)

pub has_empty : (box : Box) (kind : Kind) (relay : ℕ) → relay < length (spans_of kind box) → IsEmpty (span_at kind box relay) → HasEmptySpan box
has_empty box Pickup relay below empty = inl (relay, and_some (slice_get box.pickup relay) IsEmpty (span_at Pickup box relay) (span_has box Pickup relay below) empty)
has_empty box Dial relay below empty = inr (relay, and_some (slice_get box.dial relay) IsEmpty (span_at Dial box relay) (span_has box Dial relay below) empty)

pub with_count : (kind other : Kind) (box : Box) (relay : ℕ) (span : Steps) → length (spans_of other (with_span kind box relay span)) ≡ length (spans_of other box)
with_count Pickup Pickup box relay span = length-set box.pickup relay span
with_count Pickup Dial box relay span = refl
with_count Dial Pickup box relay span = refl
with_count Dial Dial box relay span = length-set box.dial relay span

pub with_same : (kind : Kind) (box : Box) (relay : ℕ) (span : Steps) → relay < length (spans_of kind box) → span_at kind (with_span kind box relay span) relay ≡ span
with_same Pickup box relay span below = get_or-set_same box.pickup relay span no_steps below
with_same Dial box relay span below = get_or-set_same box.dial relay span no_steps below

pub with_other : (kind other : Kind) (box : Box) (relay at : ℕ) (span : Steps) → (kind ≡ other → at ≢ relay) → span_at other (with_span kind box relay span) at ≡ span_at other box at
with_other Pickup Pickup box relay at span apart = get_or-set_other box.pickup relay at span no_steps (apart refl)
with_other Pickup Dial box relay at span apart = refl
with_other Dial Pickup box relay at span apart = refl
with_other Dial Dial box relay at span apart = get_or-set_other box.dial relay at span no_steps (apart refl)

pub with_twice : (kind : Kind) (box : Box) (relay : ℕ) (first second : Steps) → with_span kind (with_span kind box relay first) relay second ≡ with_span kind box relay second
with_twice Pickup box relay first second = let e = set-set box.pickup relay first second in cc
with_twice Dial box relay first second = let e = set-set box.dial relay first second in cc

pub with_own : (kind : Kind) (box : Box) (relay : ℕ) → with_span kind box relay (span_at kind box relay) ≡ box
with_own Pickup box relay = ap (λ (spans : List Steps). record { pickup = spans; dial = box.dial }) (set-get_or box.pickup relay no_steps)
with_own Dial box relay = ap (λ (spans : List Steps). record { pickup = box.pickup; dial = spans }) (set-get_or box.dial relay no_steps)

pickup_is_no_dial : ◌≡◌ {A = Kind} Pickup Dial → ⊥
pickup_is_no_dial e = cc

-- two settings of relays are the same one, or not
pub same_or_other : (kind other : Kind) (relay at : ℕ) → ((kind ≡ other) × (at ≡ relay)) ⊎ (kind ≡ other → at ≢ relay)
same_or_other Pickup Pickup relay at = elim (cases_eq at relay) [ inl e ↦ inl (refl, e) | inr apart ↦ inr (λ same. apart) ]
same_or_other Dial Dial relay at = elim (cases_eq at relay) [ inl e ↦ inl (refl, e) | inr apart ↦ inr (λ same. apart) ]
same_or_other Pickup Dial relay at = inr (λ same. absurd (pickup_is_no_dial same))
same_or_other Dial Pickup relay at = inr (λ same. absurd (pickup_is_no_dial (sym same)))

-- a fact of the new span at its place and of the old ones elsewhere is one of each span after a write
pub with_each : (P : Kind → ℕ → Steps → Type 0) (kind other : Kind) (box : Box) (relay at : ℕ) (span : Steps) → relay < length (spans_of kind box)
    → P kind relay span → ((kind ≡ other → at ≢ relay) → P other at (span_at other box at)) → P other at (span_at other (with_span kind box relay span) at)
with_each P kind other box relay at span below here there =
    elim (same_or_other kind other relay at) [
      | inl same ↦ subst (λ (k : Kind). P k at (span_at k (with_span kind box relay span) at)) same.0
          (subst (λ (r : ℕ). P kind r (span_at kind (with_span kind box relay span) r)) (sym same.1)
          (subst (λ (s : Steps). P kind relay s) (sym (with_same kind box relay span below)) here))
      | inr apart ↦ subst (λ (s : Steps). P other at s) (sym (with_other kind other box relay at span apart)) (there apart)
    ]
