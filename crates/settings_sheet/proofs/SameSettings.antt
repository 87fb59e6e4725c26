use Rattle.std.proofs.Common.{◌≡◌, inl, inr, ℕ, ◌+◌, ◌*◌, ◌/◌, ◌<◌, ◌≤◌, Option, Some, None, is_some, [], length, get_or, refl, sym, ap, subst, ◌∙◌, arith}
use Rattle.std.specs.Option.{option_map_or}
use Rattle.std.specs.Prelude.{slice_index, IfSome}
use Rattle.std.proofs.Math.Nat.{mul-div_cancel}
use Rattle.std.proofs.lemmas.Grind.{same_number_lists}
use Rattle.std.proofs.lemmas.List.FromFn.{get_or-map-range_with_len}
use Rattle.std.proofs.lemmas.Option.{slice_get_cases}
use Rattle.coord_model.specs.Allowed.{AreOnSteps, IsOnSteps}
use Rattle.coord_model.specs.Choice.{Settings}
use Rattle.coord_model.specs.PartLimits.{FitsRelay}
use Rattle.coord_model.specs.Limits.{FitsStudy}
use Rattle.coord_model.specs.StudyData.{StudyData}
use Rattle.coord_model.specs.Time.{plug_at, dial_at}
use Rattle.coord_model.specs.declared.study.Relay.{Relay}
use Rattle.coord_text.specs.Numbers.{fixed}
use Rattle.coord_text.proofs.Digits.{same_fixed}
use Rattle.settings_sheet.specs.SheetLines.{relay_words, relay_words_at, settings_lines}
use Rattle.settings_sheet.proofs.HeadStops.{relay_fits}
use Rattle.settings_sheet.proofs.Spelled.{dial_within, fixed_is_plain, plug_within, same_words}

-- a value stands at one step
same_step : (first step m n : ℕ) → 1 ≤ step → first + m * step ≡ first + n * step → m ≡ n
same_step first step m n some same =
    let products : m * step ≡ n * step = omega (arith, same) in
    sym (mul-div_cancel m some) ∙ ap (λ k. k / step) products ∙ mul-div_cancel n some

-- a line of a relay says one pickup step and one dial step
same_steps : (study : StudyData) (relay : Relay) → FitsRelay study relay → (p d q e : ℕ) → IsOnSteps relay p d → IsOnSteps relay q e
    → relay_words relay p d ≡ relay_words relay q e → (p ≡ q) × (d ≡ e)
same_steps study relay fits p d q e on other same =
    let plug = plug_within study relay fits p on.pickup_step in
    let other_plug = plug_within study relay fits q other.pickup_step in
    let dial = dial_within study relay fits d on.dial_step in
    let other_dial = dial_within study relay fits e other.dial_step in
    let words = same_words relay.name (fixed 2 (plug_at relay p)) (fixed 3 (dial_at relay d)) (fixed 2 (plug_at relay q)) (fixed 3 (dial_at relay e))
    (fixed_is_plain 2 (plug_at relay p) (omega (arith, plug))) (fixed_is_plain 2 (plug_at relay q) (omega (arith, other_plug))) same in (
      same_step relay.plug_first relay.plug_step p q fits.plug_step.at_least (same_fixed 2 (plug_at relay p) (plug_at relay q) (omega (arith, plug)) (omega (arith, other_plug)) words.0),
      same_step relay.dial_first relay.dial_step d e fits.dial_step.at_least (same_fixed 3 (dial_at relay d) (dial_at relay e) (omega (arith, dial)) (omega (arith, other_dial)) words.1),
    )

-- at each relay, settings with the same lines have the same steps
same_at : (study : StudyData) → FitsStudy study → (a b : Settings) → AreOnSteps study a → AreOnSteps study b → settings_lines study (Some a) ≡ settings_lines study (Some b)
    → (i : ℕ) → i < length study.relays → (slice_index a.pickup i ≡ slice_index b.pickup i) × (slice_index a.dial i ≡ slice_index b.dial i)
same_at study fits a b on_a on_b same i within =
    let n = length study.relays in
    let mine = relay_words_at study a in
    let theirs = relay_words_at study b in
    let here : mine i ≡ theirs i =
    sym (get_or-map-range_with_len mine 0 n i i [] within (omega arith)) ∙ ap (λ l. get_or l i []) same ∙ get_or-map-range_with_len theirs 0 n i i [] within (omega arith) in
    elim ((slice_get_cases study.relays i).1) [
      | inl found ↦
          let words = λ (s : Settings). λ (o : Option Relay). option_map_or (λ r. relay_words r (slice_index s.pickup i) (slice_index s.dial i)) o [] in
          same_steps study found.0 (relay_fits study fits i found.0 found.1 found.3) (slice_index a.pickup i) (slice_index a.dial i) (slice_index b.pickup i) (slice_index b.dial i)
          (subst (λ o. IfSome o (λ r. IsOnSteps r (slice_index a.pickup i) (slice_index a.dial i))) found.2 (on_a.steps i))
          (subst (λ o. IfSome o (λ r. IsOnSteps r (slice_index b.pickup i) (slice_index b.dial i))) found.2 (on_b.steps i))
          (ap (words a) (sym found.2) ∙ here ∙ ap (words b) found.2)
      | inr past ↦ absurd (omega (arith, past.0))
    ]

-- settings with the same lines are the same
pub same_settings : (study : StudyData) → FitsStudy study → (a b : Option Settings) → is_some a ≡ is_some b → IfSome a (AreOnSteps study) → IfSome b (AreOnSteps study)
    → settings_lines study a ≡ settings_lines study b → a ≡ b
same_settings study fits None None issued on_a on_b same = refl
same_settings study fits None (Some b) issued on_a on_b same = absurd (cc)
same_settings study fits (Some a) None issued on_a on_b same = absurd (cc)
same_settings study fits (Some a) (Some b) issued on_a on_b same =
    let at = same_at study fits a b on_a on_b same in
    let pickups : a.pickup ≡ b.pickup = same_number_lists a.pickup b.pickup (on_a.pickups ∙ sym on_b.pickups) (λ k below. (at k (omega (arith, on_a.pickups))).0) in
    let dials : a.dial ≡ b.dial = same_number_lists a.dial b.dial (on_a.dials ∙ sym on_b.dials) (λ k below. (at k (omega (arith, on_a.dials))).1) in
    ap (λ p. Some (record { pickup = p; dial = a.dial })) pickups ∙ ap (λ d. Some (record { pickup = b.pickup; dial = d })) dials
