use Rattle.std.proofs.Common.{◌≡◌, ◌≢◌, ◌⊎◌, inl, inr, ℕ, ◌+◌, ◌<◌, ◌==◌, Bool, true, false, Some, List, [], ◌∷◌, ◌++◌, length, map, refl, sym, ap, subst, ◌∙◌, arith}
use Rattle.std.specs.List.{range_with_len}
use Rattle.std.specs.Option.{option_map_or}
use Rattle.std.specs.Prelude.{IfSome, slice_get, slice_index}
use Rattle.std.proofs.Math.ListN.{set, length-set}
use Rattle.std.proofs.lemmas.Bool.Decides.{nat_tests}
use Rattle.std.proofs.lemmas.List.{get_or-set_other, get_or-set_same, same_lists}
use Rattle.std.proofs.lemmas.List.FromFn.{get_or-map-range_with_len, length-map-range_with_len, map-range_with_len_more}
use Rattle.coord_model.specs.Allowed.{AreOnSteps, IsOnSteps}
use Rattle.coord_model.specs.Choice.{Settings}
use Rattle.coord_model.specs.StudyData.{StudyData}
use Rattle.coord_model.specs.declared.study.Relay.{Relay}
use Rattle.settings_sheet.specs.RelayStops.{first_lines}
use Rattle.settings_sheet.specs.SheetLines.{relay_words, relay_words_at}

-- two numbers are the same or not
by_test : (t : Bool) (i j : ℕ) → (i == j) ≡ t → (i ≡ j) ⊎ (i ≢ j)
by_test true i j h = inl (grind (arith, nat_tests))
by_test false i j h = inr (λ same. grind (arith, nat_tests))

pub same_or_not : (i j : ℕ) → (i ≡ j) ⊎ (i ≢ j)
same_or_not i j = by_test (i == j) i j refl

-- two functions that agree on the first numbers give the same list
pub same_maps : {X : Type 0} (f g : ℕ → X) (n : ℕ) → ((j : ℕ) → j < n → f j ≡ g j) → map f (range_with_len 0 n) ≡ map g (range_with_len 0 n)
same_maps f g n agree =
    same_lists (map f (range_with_len 0 n)) (map g (range_with_len 0 n)) (length-map-range_with_len f 0 n ∙ sym (length-map-range_with_len g 0 n))
    (λ k d below. let within : k < n = omega (arith, length-map-range_with_len f 0 n) in
    get_or-map-range_with_len f 0 n k k d within (omega arith) ∙ agree k within ∙ sym (get_or-map-range_with_len g 0 n k k d within (omega arith)))

-- the line of a relay by its number, with steps
abbrev words_with : StudyData → ℕ → ℕ → ℕ → List ℕ
words_with study j pickup dial = option_map_or (λ r. relay_words r pickup dial) (slice_get study.relays j) []

-- the settings with other steps for one relay
abbrev pub with_steps : Settings → ℕ → ℕ → ℕ → Settings
with_steps settings i pickup dial = record { pickup = set settings.pickup i pickup; dial = set settings.dial i dial }

module _ (study : StudyData) (settings : Settings) (i pickup dial : ℕ) (relay : Relay)
    (on_steps : AreOnSteps study settings) (in_study : i < length study.relays) (is_relay : slice_get study.relays i ≡ Some relay)
  where
    -- the steps that are read back at the relay, and at others
    pickup_here : slice_index (set settings.pickup i pickup) i ≡ pickup
    pickup_here = get_or-set_same settings.pickup i pickup 0 (omega (arith, on_steps.pickups))

    dial_here : slice_index (set settings.dial i dial) i ≡ dial
    dial_here = get_or-set_same settings.dial i dial 0 (omega (arith, on_steps.dials))

    -- steps of a relay may be put in
    pub steps_put : IsOnSteps relay pickup dial → AreOnSteps study (with_steps settings i pickup dial)
    steps_put on = record {
      pickups = length-set settings.pickup i pickup ∙ on_steps.pickups;
      dials = length-set settings.dial i dial ∙ on_steps.dials;
      steps = λ j. elim (same_or_not j i) [
        | inl same ↦ subst (λ k. IfSome (slice_get study.relays k) (λ r. IsOnSteps r (slice_index (set settings.pickup i pickup) k) (slice_index (set settings.dial i dial) k)))
            (sym same) (subst (λ o. IfSome o (λ r. IsOnSteps r (slice_index (set settings.pickup i pickup) i) (slice_index (set settings.dial i dial) i))) (sym is_relay)
            (record {
              pickup_step = subst (λ n. n < relay.plug_count) (sym pickup_here) on.pickup_step;
              dial_step = subst (λ n. n < relay.dial_count) (sym dial_here) on.dial_step;
            }))
        | inr other ↦ subst (λ n. IfSome (slice_get study.relays j) (λ r. IsOnSteps r n (slice_index (set settings.dial i dial) j))) (sym (get_or-set_other settings.pickup i j pickup 0 other))
            (subst (λ n. IfSome (slice_get study.relays j) (λ r. IsOnSteps r (slice_index settings.pickup j) n)) (sym (get_or-set_other settings.dial i j dial 0 other)) (on_steps.steps j))
      ];
    }

    -- other relays keep their lines
    line_kept : (j : ℕ) → j < i → relay_words_at study (with_steps settings i pickup dial) j ≡ relay_words_at study settings j
    line_kept j below =
        let other : j ≢ i = omega arith in
        ap (λ n. words_with study j n (slice_index (set settings.dial i dial) j)) (get_or-set_other settings.pickup i j pickup 0 other)
        ∙ ap (words_with study j (slice_index settings.pickup j)) (get_or-set_other settings.dial i j dial 0 other)

    -- the relay has the line of its new steps
    line_new : relay_words_at study (with_steps settings i pickup dial) i ≡ relay_words relay pickup dial
    line_new =
        ap (λ o. option_map_or (λ r. relay_words r (slice_index (set settings.pickup i pickup) i) (slice_index (set settings.dial i dial) i)) o []) is_relay
        ∙ ap (λ n. relay_words relay n (slice_index (set settings.dial i dial) i)) pickup_here ∙ ap (relay_words relay pickup) dial_here

    -- the lines before keep their settings
    pub lines_put : first_lines study (with_steps settings i pickup dial) (i + 1) ≡ first_lines study settings i ++ relay_words relay pickup dial ∷ []
    lines_put =
        let new = relay_words_at study (with_steps settings i pickup dial) in
        map-range_with_len_more new 0 i i (omega arith) ∙ ap (λ l. l ++ new i ∷ []) (same_maps new (relay_words_at study settings) i line_kept)
        ∙ ap (λ w. first_lines study settings i ++ w ∷ []) line_new
