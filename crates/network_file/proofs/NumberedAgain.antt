-- What is told of a study whose names differ is numbered as that study.
use Rattle.std.specs.Prelude.{◌-◌, ◌+◌, ◌*◌, ◌||◌, ◌==◌, nat_le, sum_by}
use Rattle.std.specs.List.{AllPairs, IsDistinct, list_any}
use Rattle.std.specs.Str.{bytes_eq}
use Rattle.std.proofs.Common.{◌≡◌, ℕ, zero, suc, ◌<◌, ◌≤◌, true, false, List, [], ◌∷◌, ◌++◌, length, get_or, map, All, Result, Ok, refl, sym, ap, ◌∙◌, append_assoc, arith}
use Rattle.std.proofs.lemmas.Bool.Decides.{nat_tests}
use Rattle.std.proofs.lemmas.List.{append-nil, get_or_append_left, get_or_at, length-append, map-append, length-map}
use Rattle.coord_model.specs.PartLimits.{FitsLine, FitsRelay, FitsFault, FitsExempt, FitsInterval}
use Rattle.coord_model.specs.Limits.{FitsStudy, StandTogether}
use Rattle.coord_model.specs.StudyData.{StudyData}
use Rattle.coord_model.specs.declared.kinds.What.{What}
use Rattle.coord_model.specs.declared.kinds.What.TheVariants.{Buses, PickupSteps}
use Rattle.coord_model.specs.declared.name.Name.{Name}
use Rattle.coord_model.specs.declared.study.Exempt.{Exempt}
use Rattle.coord_model.specs.declared.study.Fault.{Fault}
use Rattle.coord_model.specs.declared.study.Line.{Line}
use Rattle.coord_model.specs.declared.study.PairInterval.{PairInterval}
use Rattle.coord_model.specs.declared.study.Relay.{Relay}
use Rattle.network_file.specs.Fault.{each_after}
use Rattle.network_file.specs.Fits.{IsRelayBelow}
use Rattle.network_file.specs.Named.{line_told, relay_told, fault_told, pair_told, interval_told, told_of}
use Rattle.network_file.specs.Names.{new_name, line_names, relay_names, fault_names}
use Rattle.network_file.specs.Numbered.{line_in, relay_in, fault_on}
use Rattle.network_file.specs.Pairs.{exempt_in, interval_in}
use Rattle.network_file.specs.Rules.{IsNamed, IsInFormat, HasTimesInOrder, AreOfOnePair}
use Rattle.network_file.specs.Study.{next_line, next_relay, next_fault, next_exempt, next_interval, grid_of, study_of}
use Rattle.network_file.specs.Tables.{within}
use Rattle.network_file.specs.declared.fault.NetFault.{NetFault}
use Rattle.network_file.specs.declared.fault.Place.{Place}
use Rattle.network_file.proofs.Apart.{free_end, free_pair}
use Rattle.network_file.proofs.CurveFits.{curve_passes}
use Rattle.network_file.proofs.Different.{number_again, ends_differ, absent_name, buses_differ}
use Rattle.network_file.proofs.Placed.{relays_below}

-- an element of a list that is split at it, and one before it
module _ {A : Type 0} (all before : List A) (x : A) (rest : List A) (split : all ≡ before ++ x ∷ rest) where
  at_split : (d : A) → get_or all (length before) d ≡ x
  at_split d = rw split (get_or_at before x rest d (length before) refl)

  before_split : (k : ℕ) (d : A) → k < length before → get_or all k d ≡ get_or before k d
  before_split k d within = rw split (get_or_append_left before (x ∷ rest) d k within)

  split_within : length before < length all
  split_within = rw split (omega (arith, length-append before (x ∷ rest)))

  -- what holds of all holds of the element
  middle : (P : A → Type 0) → All P all → P x
  middle P holds = rw (at_split x) at (holds (length before) x split_within)

  -- what holds between all holds between those before it and the element
  earlier : (R : A → A → Type 0) → AllPairs R all → All (λ y. R y x) before
  earlier R pairs k d within = rw (before_split k d within, at_split d) at (pairs k (length before) d within split_within)

-- a name among those that differ is new after those before it
new_passes : (place : Place) (names : List Name) (name : Name) → list_any (bytes_eq name) names ≡ false → new_name place names name ≡ Ok tt
unfolding new_name
new_passes place names name fresh = rw fresh

fresh_name : {A : Type 0} (name : A → Name) (before : List A) (x : A) (rest : List A) → IsDistinct bytes_eq (map name (before ++ x ∷ rest))
    → list_any (bytes_eq (name x)) (map name before) ≡ false
fresh_name name before x rest differ = absent_name (map name before) (name x) (map name rest) (rw map-append at differ)

passes_limit : (n limit : ℕ) → n ≤ limit → nat_le n limit ≡ true
passes_limit n limit h = grind (arith, nat_tests)

passes_most : (least most : ℕ) → (0 < most → least ≤ most) → ((most == 0) || nat_le least most) ≡ true
passes_most least zero in_order = refl
passes_most least (suc most) in_order =
    let at_most : least ≤ suc most = in_order (omega arith) in
    grind (arith, nat_tests, at_most)

within_limit : (what : What) (limit count : ℕ) → count ≤ limit → within what limit count ≡ Ok tt
unfolding within
within_limit what limit count few = rw (passes_limit count limit few)

-- where each element is read after those before it, all are
each_numbered : {A B : Type 0} (read : List B → A → Result B NetFault) (tell : B → A) (before rest : List B)
    → ((front : List B) (x : B) (back : List B) → before ++ rest ≡ front ++ x ∷ back → read front (tell x) ≡ Ok x)
    → each_after read before (map tell rest) ≡ Ok (before ++ rest)
unfolding each_after
each_numbered read tell before [] numbered = rw append-nil
each_numbered read tell before (x ∷ rest) numbered =
    rw (numbered before x rest refl)
    (each_numbered read tell (before ++ x ∷ []) rest (λ front y back split. numbered front y back (sym (append_assoc before (x ∷ []) rest) ∙ split))
    ∙ ap Ok (append_assoc before (x ∷ []) rest))

module _ (study : StudyData) (fits : FitsStudy study) (named_apart : IsNamed study) (in_format : IsInFormat study) where
  bus_names : IsDistinct bytes_eq study.buses
  bus_names = rw named_apart.buses at (buses_differ (told_of study).lines)

  line_count : length (line_names study.lines) ≡ length study.lines
  line_count = length-map study.lines (λ (line : Line). line.name)

  line_numbered : (before : List Line) (line : Line) (rest : List Line) → study.lines ≡ before ++ line ∷ rest
      → next_line study.buses before (line_told study.buses line) ≡ Ok line
  unfolding line_in
  line_numbered before line rest split =
      let fit = middle study.lines before line rest split (FitsLine study) fits.lines in
      rw (
        new_passes _ (line_names before) line.name (fresh_name (λ (x : Line). x.name) before line rest (rw split at named_apart.lines)),
        ends_differ study.buses line.from line.to bus_names fit.from fit.to fit.no_loop,
        number_again study.buses line.from bus_names fit.from,
        number_again study.buses line.to bus_names fit.to,
      )

  relay_numbered : (before : List Relay) (relay : Relay) (rest : List Relay) → study.relays ≡ before ++ relay ∷ rest
      → next_relay study.buses study.lines before (relay_told study.buses (line_names study.lines) relay) ≡ Ok relay
  unfolding relay_in
  relay_numbered before relay rest split =
      let fit = middle study.relays before relay rest split (FitsRelay study) fits.relays in
      let below = middle study.relays before relay rest split (IsRelayBelow (length study.buses) (length study.lines)) (relays_below study fits) in
      rw (
        new_passes _ (relay_names before) relay.name (fresh_name (λ (x : Relay). x.name) before relay rest (rw split at named_apart.relays)),
        number_again (line_names study.lines) relay.line named_apart.lines (rw line_count below.line),
        number_again study.buses relay.bus bus_names below.bus,
        fit.at_end,
        free_end before relay (earlier study.relays before relay rest split (λ one other. ¬ (StandTogether one other)) fits.apart),
        curve_passes _ relay.curve fit.curve,
        passes_limit (relay.plug_first + (relay.plug_count - 1) * relay.plug_step) 10000 fit.last_plug,
        passes_limit (relay.dial_first + (relay.dial_count - 1) * relay.dial_step) 15000 fit.last_dial,
        passes_most relay.least_ms relay.most_ms (middle study.relays before relay rest split HasTimesInOrder in_format.in_order),
      )

  fault_numbered : (before : List Fault) (fault : Fault) (rest : List Fault) → study.faults ≡ before ++ fault ∷ rest
      → next_fault study.lines before (fault_told (line_names study.lines) fault) ≡ Ok fault
  unfolding fault_on
  fault_numbered before fault rest split =
      let fit = middle study.faults before fault rest split (FitsFault study) fits.faults in
      rw (
        new_passes _ (fault_names before) fault.name (fresh_name (λ (x : Fault). x.name) before fault rest (rw split at named_apart.faults)),
        number_again (line_names study.lines) fault.line named_apart.lines (rw line_count fit.on_line),
      )

  pair_numbered : (before : List Exempt) (pair : Exempt) (rest : List Exempt) → study.exempt ≡ before ++ pair ∷ rest
      → next_exempt (relay_names study.relays) before (pair_told (relay_names study.relays) pair) ≡ Ok pair
  unfolding exempt_in
  pair_numbered before pair rest split =
      let fit = middle study.exempt before pair rest split (FitsExempt study) fits.exempt in
      let count = length-map study.relays (λ (relay : Relay). relay.name) in
      rw (
        number_again (relay_names study.relays) pair.backup named_apart.relays (rw count fit.backup),
        number_again (relay_names study.relays) pair.primary named_apart.relays (rw count fit.primary),
      )

  interval_numbered : (before : List PairInterval) (own : PairInterval) (rest : List PairInterval) → study.intervals ≡ before ++ own ∷ rest
      → next_interval (relay_names study.relays) before (interval_told (relay_names study.relays) own) ≡ Ok own
  unfolding interval_in
  interval_numbered before own rest split =
      let fit = middle study.intervals before own rest split (FitsInterval study) fits.intervals in
      let count = length-map study.relays (λ (relay : Relay). relay.name) in
      rw (
        number_again (relay_names study.relays) own.backup named_apart.relays (rw count fit.backup),
        number_again (relay_names study.relays) own.primary named_apart.relays (rw count fit.primary),
        free_pair before own (earlier study.intervals before own rest split (λ one other. ¬ (AreOfOnePair one other)) in_format.once),
      )

  grid_numbered : grid_of (map (line_told study.buses) study.lines) ≡ Ok study.lines
  unfolding grid_of
  grid_numbered =
      rw (
        named_apart.buses,
        each_numbered (next_line study.buses) (line_told study.buses) [] study.lines line_numbered,
        within_limit Buses 64 (length study.buses) fits.bus_count,
      )

  pub numbered_again : study_of (told_of study) ≡ Ok study
  unfolding study_of
  numbered_again =
      rw (
        named_apart.buses,
        grid_numbered,
        each_numbered (next_relay study.buses study.lines) (relay_told study.buses (line_names study.lines)) [] study.relays relay_numbered,
        within_limit PickupSteps 3072 (sum_by (λ (relay : Relay). relay.plug_count) study.relays) fits.pickup_steps,
        each_numbered (next_fault study.lines) (fault_told (line_names study.lines)) [] study.faults fault_numbered,
        each_numbered (next_exempt (relay_names study.relays)) (pair_told (relay_names study.relays)) [] study.exempt pair_numbered,
        each_numbered (next_interval (relay_names study.relays)) (interval_told (relay_names study.relays)) [] study.intervals interval_numbered,
      )
