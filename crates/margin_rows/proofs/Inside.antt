-- Settings of the first box and settings that lie in a box.
use Rattle.std.specs.Prelude.{slice_get, slice_index}
use Rattle.std.specs.Option.{IfSome}
use Rattle.std.proofs.Common.{◌≡◌, ℕ, ◌<◌, ◌↔◌, length, Some, None, Option, arith, refl, sym, ◌∙◌, inl, inr}
use Rattle.std.proofs.lemmas.Option.{slice_get_cases, slice_get_within}
use Rattle.coord_model.specs.Allowed.{IsOnSteps, IsSensible}
use Rattle.coord_model.specs.Choice.{Settings}
use Rattle.coord_model.specs.declared.study.Relay.{Relay}
use Rattle.margin_rows.specs.Box.{Box, FitsBox, IsDialStep, IsFirstBox, IsIn, LiesIn}
use Rattle.margin_rows.specs.Case.{Case}
use Rattle.margin_rows.specs.FirstBox.{IsFirstStep, IsInFirstBox}
use Rattle.margin_rows.specs.declared.span.Steps.{Steps}
use Rattle.margin_rows.proofs.Boxed.{pickup_first}
use Rattle.margin_rows.proofs.Places.{and_some}
use Rattle.margin_rows.proofs.Placed.{of_some}

-- a step of settings of the first box, for each relay
on_steps_at : (case : Case) (settings : Settings) (i : ℕ) (relay : Relay) → IsInFirstBox case settings → slice_get case.study.relays i ≡ Some relay
    → IsOnSteps relay (slice_index settings.pickup i) (slice_index settings.dial i)
on_steps_at case settings i relay inside found = rw found at (inside.on_steps.steps i)

-- settings of the first box lie in it
pub first_box_holds : (case : Case) (box : Box) (settings : Settings) → IsFirstBox case box → IsInFirstBox case settings → LiesIn box settings
first_box_holds case box settings first inside = record {
  pickup = record { count = inside.on_steps.pickups ∙ sym first.pickups; each = λ i. pickup i (slice_get box.pickup i) refl };
  dial = record { count = inside.on_steps.dials ∙ sym first.dials; each = λ i. dial i (slice_get box.dial i) refl };
}
  where
    pickup : (i : ℕ) (o : Option Steps) → slice_get box.pickup i ≡ o → IfSome o (λ span. IsIn span (slice_index settings.pickup i))
    pickup i None is = tt
    pickup i (Some span) is =
        let both : IsIn span (slice_index settings.pickup i) ↔ IsFirstStep case i (slice_index settings.pickup i) = rw is at (first.pickup i (slice_index settings.pickup i)) in
        both.1 (pickup_first case settings i inside (omega (arith, slice_get_within box.pickup i span is, first.pickups)))

    dial : (i : ℕ) (o : Option Steps) → slice_get box.dial i ≡ o → IfSome o (λ span. IsIn span (slice_index settings.dial i))
    dial i None is = tt
    dial i (Some span) is =
        let both : IsIn span (slice_index settings.dial i) ↔ IsDialStep case i (slice_index settings.dial i) = rw is at (first.dial i (slice_index settings.dial i)) in
        let below : i < length case.study.relays = omega (arith, slice_get_within box.dial i span is, first.dials) in
        both.1 (elim (slice_get_cases case.study.relays i).1 as (λ _. IsDialStep case i (slice_index settings.dial i)) [
          | inl found ↦ and_some (slice_get case.study.relays i) (λ r. slice_index settings.dial i < r.dial_count) found.0 found.2 (on_steps_at case settings i found.0 inside found.2).dial_step
          | inr past ↦ absurd (omega (arith, past.0, below))
        ])

-- settings of a box within the first box are settings of the first box
pub box_lies_first : (case : Case) (box : Box) (settings : Settings) → FitsBox case box → LiesIn box settings → IsInFirstBox case settings
box_lies_first case box settings fits lies_in = record {
  on_steps = record {
    pickups = lies_in.pickup.count ∙ fits.pickups;
    dials = lies_in.dial.count ∙ fits.dials;
    steps = λ i. steps i (slice_get case.study.relays i) refl;
  };
  sensible = λ i. sensible i (slice_get case.study.relays i) refl;
}
  where
    first_step : (i : ℕ) (relay : Relay) → slice_get case.study.relays i ≡ Some relay → (slice_index settings.pickup i < relay.plug_count) × IsSensible case.study case.currents i relay (slice_index settings.pickup i)
    first_step i relay found =
        let step = slice_index settings.pickup i in
        elim (slice_get_cases box.pickup i).1 as (λ _. (slice_index settings.pickup i < relay.plug_count) × IsSensible case.study case.currents i relay (slice_index settings.pickup i)) [
          | inl there ↦
              let inside = of_some (slice_get box.pickup i) (λ span. IsIn span step) there.0 there.2 (lies_in.pickup.each i) in
              let is_first : IsFirstStep case i step = of_some (slice_get box.pickup i) (λ span. IsIn span step → IsFirstStep case i step) there.0 there.2 (fits.pickup i step) inside in
              rw found at is_first
          | inr past ↦ absurd (omega (arith, past.0, slice_get_within case.study.relays i relay found, fits.pickups))
        ]

    dial_step : (i : ℕ) (relay : Relay) → slice_get case.study.relays i ≡ Some relay → slice_index settings.dial i < relay.dial_count
    dial_step i relay found =
        let step = slice_index settings.dial i in
        elim (slice_get_cases box.dial i).1 as (λ _. slice_index settings.dial i < relay.dial_count) [
          | inl there ↦
              let inside = of_some (slice_get box.dial i) (λ span. IsIn span step) there.0 there.2 (lies_in.dial.each i) in
              let is_step : IsDialStep case i step = of_some (slice_get box.dial i) (λ span. IsIn span step → IsDialStep case i step) there.0 there.2 (fits.dial i step) inside in
              rw found at is_step
          | inr past ↦ absurd (omega (arith, past.0, slice_get_within case.study.relays i relay found, fits.dials))
        ]

    steps : (i : ℕ) (o : Option Relay) → slice_get case.study.relays i ≡ o → IfSome o (λ relay. IsOnSteps relay (slice_index settings.pickup i) (slice_index settings.dial i))
    steps i None found = tt
    steps i (Some relay) found = record { pickup_step = (first_step i relay found).0; dial_step = dial_step i relay found }

    sensible : (i : ℕ) (o : Option Relay) → slice_get case.study.relays i ≡ o → IfSome o (λ relay. IsSensible case.study case.currents i relay (slice_index settings.pickup i))
    sensible i None found = tt
    sensible i (Some relay) found = (first_step i relay found).1
