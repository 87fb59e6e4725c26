-- The lines of the relays, as they are pushed one by one.
use Rattle.std.proofs.Common.{◌≡◌, ℕ, ◌+◌, ◌<◌, Some, get_or, sym, List, ◌++◌, length, refl, ap, ◌∙◌, append_assoc, arith}
use Rattle.std.specs.Prelude.{slice_get}
use Rattle.std.proofs.lemmas.List.{get_or_read}
use Rattle.std.proofs.lemmas.List.FromFn.{map-range_with_len_more}
use Rattle.std.proofs.lemmas.Option.{slice_get_read}
use Rattle.coord_model.specs.Choice.{Settings}
use Rattle.coord_model.specs.StudyData.{StudyData}
use Rattle.coord_model.specs.declared.study.Relay.{Relay}
use Rattle.coord_text.specs.Claims.{ended, text_of}
use Rattle.coord_text.proofs.TextSteps.{text_more}
use Rattle.settings_sheet.specs.RelayStops.{first_lines}
use Rattle.settings_sheet.specs.SheetLines.{relay_words, relay_words_at}

-- the line of a relay, as it is read by its number
words_read : (study : StudyData) (settings : Settings) (i p d : ℕ) (relay : Relay)
    → i < length study.relays → relay ≡ get_or study.relays i relay
    → i < length settings.pickup → p ≡ get_or settings.pickup i p → i < length settings.dial → d ≡ get_or settings.dial i d
    → relay_words_at study settings i ≡ relay_words relay p d
words_read study settings i p d relay in_relays is_relay in_pickups is_pickup in_dials is_dial =
    let found : slice_get study.relays i ≡ Some relay = slice_get_read study.relays (length study.relays) i relay refl in_relays is_relay in
    let pickup : get_or settings.pickup i 0 ≡ p = sym (get_or_read settings.pickup i p in_pickups is_pickup 0) in
    let dial : get_or settings.dial i 0 ≡ d = sym (get_or_read settings.dial i d in_dials is_dial 0) in
    rw (found, pickup, dial) refl

-- one more line, after what was there
pub line_pushed : (study : StudyData) (settings : Settings) (i p d : ℕ) (relay : Relay) (out : List ℕ)
    → i < length study.relays → relay ≡ get_or study.relays i relay
    → i < length settings.pickup → p ≡ get_or settings.pickup i p → i < length settings.dial → d ≡ get_or settings.dial i d
    → (out ++ text_of (first_lines study settings i)) ++ ended (relay_words relay p d) ≡ out ++ text_of (first_lines study settings (i + 1))
line_pushed study settings i p d relay out in_relays is_relay in_pickups is_pickup in_dials is_dial =
    let words = relay_words_at study settings in
    append_assoc out (text_of (first_lines study settings i)) (ended (relay_words relay p d))
    ∙ ap (λ w. out ++ (text_of (first_lines study settings i) ++ ended w)) (sym (words_read study settings i p d relay in_relays is_relay in_pickups is_pickup in_dials is_dial))
    ∙ ap (λ w. out ++ w) (sym (text_more (first_lines study settings i) (words i)) ∙ ap text_of (sym (map-range_with_len_more words 0 i i (omega arith))))
