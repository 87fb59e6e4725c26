-- A climb with one raise more.
use Rattle.std.specs.Prelude.{slice_get, slice_index}
use Rattle.std.specs.List.{sum_by}
use Rattle.std.specs.Option.{IfSome, IsSomeAnd, option_map}
use Rattle.std.proofs.Common.{◌≡◌, ℕ, suc, ◌+◌, ◌<◌, ◌≤◌, List, [], ◌∷◌, ◌++◌, length, set, Some, None, Option, arith, refl, sym, ap, ◌∙◌, subst, inl, inr, get_or-set_same, get_or-set_other}
use Rattle.std.proofs.lemmas.Bool.{cases_eq}
use Rattle.std.proofs.lemmas.List.{length-set, length_push, get_or_push}
use Rattle.std.proofs.lemmas.List.Sums.{sum_by-set, sum_by-cons}
use Rattle.std.proofs.lemmas.Option.{slice_get_within, slice_get-get_or}
use Rattle.coord_model.specs.Allowed.{AreOnSteps, IsOnSteps}
use Rattle.coord_model.specs.Choice.{Settings}
use Rattle.coord_model.specs.declared.study.Relay.{Relay}
use Rattle.coord_why.specs.Chains.{dial_steps}
use Rattle.coord_why.specs.Climbs.{AreRaised, IsAdded, IsClimb, IsLatest, IsRaiseFor}
use Rattle.margin_rows.specs.Raised.{step_sum}
use Rattle.coord_why.specs.Links.{Holds}
use Rattle.coord_why.specs.Raises.{base_of, RestEarlier, AreFounded}
use Rattle.coord_why.specs.declared.climb.Climb.{Climb}
use Rattle.coord_why.specs.declared.climb.Raise.{Raise}
use Rattle.margin_rows.specs.Box.{IsDialStep}
use Rattle.margin_rows.specs.Case.{Case}
use Rattle.margin_rows.specs.FirstBox.{IsInFirstBox}
use Rattle.margin_rows.proofs.Placed.{of_some}
use Rattle.margin_rows.proofs.Places.{some_and, and_some}
use Rattle.margin_rows.proofs.Ran.{slice_get_grown}
use Rattle.margin_rows.proofs.Written.{each_more, in_list}

-- settings of the first box with another dial step of a relay
pub redialled : (case : Case) (pickups dials : List ℕ) (relay step : ℕ) → IsDialStep case relay step → IsInFirstBox case (record { pickup = pickups; dial = dials })
    → IsInFirstBox case (record { pickup = pickups; dial = set dials relay step })
redialled case pickups dials relay step on_step box = record {
  on_steps = record {
    pickups = box.on_steps.pickups;
    dials = length-set dials relay step ∙ box.on_steps.dials;
    steps = λ i. steps i (slice_get case.study.relays i) refl;
  };
  sensible = box.sensible;
}
  where
    steps : (i : ℕ) (o : Option Relay) → slice_get case.study.relays i ≡ o → IfSome o (λ r. IsOnSteps r (slice_index pickups i) (slice_index (set dials relay step) i))
    steps i None found = tt
    steps i (Some r) found =
        let old = of_some (slice_get case.study.relays i) (λ r. IsOnSteps r (slice_index pickups i) (slice_index dials i)) r found (box.on_steps.steps i) in
        elim (cases_eq i relay) [
          | inl same ↦
              let inside : i < length dials = omega (arith, slice_get_within case.study.relays i r found, box.on_steps.dials) in
              let written : slice_index (set dials relay step) i ≡ step = ap (λ (k : ℕ). slice_index (set dials k step) i) (sym same) ∙ get_or-set_same dials i step 0 inside in
              let P : ℕ → Type 0 = λ k. IsDialStep case k step in
              let there = some_and (slice_get case.study.relays i) (λ r. step < r.dial_count) (subst P (sym same) on_step) in
              let Q : Option Relay → Type 0 = λ o. o ≡ Some there.0 in
              let is_same : Some r ≡ Some there.0 = sym found ∙ there.1 in
              record { pickup_step = old.pickup_step; dial_step = rw written (of_some (Some r) (λ r. step < r.dial_count) r refl (subst (λ (o : Option Relay). IfSome o (λ r. step < r.dial_count)) (sym is_same) there.2)) }
          | inr apart ↦ record { pickup_step = old.pickup_step; dial_step = rw (get_or-set_other dials relay i step 0 apart) old.dial_step }
        ]

-- the link of an earlier raise stays
base_stays : (raises : List Raise) (raise : Raise) (rests : Option ℕ) → IfSome rests (λ base. base < length raises) → base_of (raises ++ raise ∷ []) rests ≡ base_of raises rests
base_stays raises raise None within = refl
base_stays raises raise (Some base) within =
    let there = in_list raises base within in
    ap (λ (o : Option Raise). option_map (λ (r : Raise). r.link) o) (slice_get_grown raises (raise ∷ []) base there.0 there.1 ∙ sym there.1)

earlier_within : (raises : List Raise) (number : ℕ) (raise : Raise) → RestEarlier raises → slice_get raises number ≡ Some raise → IfSome raise.rests (λ base. base < length raises)
earlier_within raises number raise earlier found =
    go raise.rests (of_some (slice_get raises number) (λ r. IfSome r.rests (λ base. base < number)) raise found (earlier number))
  where
    go : (rests : Option ℕ) → IfSome rests (λ base. base < number) → IfSome rests (λ base. base < length raises)
    go None before = tt
    go (Some base) before = omega (arith, before, slice_get_within raises number raise found)

-- raises with one more are founded
more_founded : (case : Case) (pickups : List ℕ) (raises : List Raise) (raise : Raise) → RestEarlier raises → AreFounded case pickups raises
    → IfSome raise.rests (λ base. base < length raises) → Holds case pickups (base_of raises raise.rests) raise.link → AreFounded case pickups (raises ++ raise ∷ [])
more_founded case pickups raises raise earlier founded within holds =
    each_more (λ number r. Holds case pickups (base_of (raises ++ raise ∷ []) r.rests) r.link) raises raise
    (λ number. old number (slice_get raises number) refl) (rw (base_stays raises raise raise.rests within) holds)
  where
    old : (number : ℕ) (o : Option Raise) → slice_get raises number ≡ o → IfSome o (λ r. Holds case pickups (base_of (raises ++ raise ∷ []) r.rests) r.link)
    old number None found = tt
    old number (Some r) found =
        rw (base_stays raises raise r.rests (earlier_within raises number r earlier found)) (of_some (slice_get raises number) (λ r. Holds case pickups (base_of raises r.rests) r.link) r found (founded number))

-- and bring the relays to the dials with that of the raise
more_raised : (case : Case) (settings : Settings) (pickups dials latest : List ℕ) (raises : List Raise) (raise : Raise) → length dials ≡ length case.study.relays
    → AreRaised case pickups dials latest raises → raise.link.relay < length case.study.relays → slice_index dials raise.link.relay < raise.link.step
    → IfSome raise.rests (λ base. base < length raises) → Holds case pickups (base_of raises raise.rests) raise.link
    → AreRaised case pickups (set dials raise.link.relay raise.link.step) (set latest raise.link.relay (length raises)) (raises ++ raise ∷ [])
more_raised case settings pickups dials latest raises raise count raised inside above within holds = record {
  earlier = each_more (λ number r. IfSome r.rests (λ base. base < number)) raises raise raised.earlier within;
  founded = more_founded case pickups raises raise raised.earlier raised.founded within holds;
  count = length-set latest raise.link.relay (length raises) ∙ raised.count;
  reached = λ relay below. reached relay below;
  few = omega (arith, raised.few, length_push raises raise, above, sum_by-set (λ (step : ℕ). step) dials raise.link.relay raise.link.step 0 (omega (arith, inside, count)));
}
  where
    reached : (relay : ℕ) → relay < length case.study.relays
        → IsLatest (raises ++ raise ∷ []) (set dials raise.link.relay raise.link.step) relay (slice_index (set latest raise.link.relay (length raises)) relay)
    reached relay below = elim (cases_eq relay raise.link.relay) [
      | inl same ↦
          let number : slice_index (set latest raise.link.relay (length raises)) relay ≡ length raises =
          ap (λ (k : ℕ). slice_index (set latest k (length raises)) relay) (sym same) ∙ get_or-set_same latest relay (length raises) 0 (omega (arith, below, raised.count)) in
          let step : slice_index (set dials raise.link.relay raise.link.step) relay ≡ raise.link.step =
          ap (λ (k : ℕ). slice_index (set dials k raise.link.step) relay) (sym same) ∙ get_or-set_same dials relay raise.link.step 0 (omega (arith, below, count)) in
          let found : slice_get (raises ++ raise ∷ []) (length raises) ≡ Some raise =
          slice_get-get_or (raises ++ raise ∷ []) (length raises) raise (omega (arith, length_push raises raise)) ∙ ap Some (get_or_push raises raise raise (length raises) refl) in
          let P : ℕ → Type 0 = λ k. IsLatest (raises ++ raise ∷ []) (set dials raise.link.relay raise.link.step) relay k in
          subst P (sym number)
          (and_some (slice_get (raises ++ raise ∷ []) (length raises)) (λ r. (r.link.relay ≡ relay) × (r.link.step ≡ slice_index (set dials raise.link.relay raise.link.step) relay)) raise found (sym same, sym step))
      | inr apart ↦
          let number = get_or-set_other latest raise.link.relay relay (length raises) 0 apart in
          let step = get_or-set_other dials raise.link.relay relay raise.link.step 0 apart in
          let there = some_and (slice_get raises (slice_index latest relay)) _ (raised.reached relay below) in
          let P : ℕ → Type 0 = λ k. IsLatest (raises ++ raise ∷ []) (set dials raise.link.relay raise.link.step) relay k in
          subst P (sym number)
          (and_some (slice_get (raises ++ raise ∷ []) (slice_index latest relay)) (λ r. (r.link.relay ≡ relay) × (r.link.step ≡ slice_index (set dials raise.link.relay raise.link.step) relay)) there.0
          (slice_get_grown raises (raise ∷ []) (slice_index latest relay) there.0 there.1) (there.2.0, there.2.1 ∙ sym step))
    ]

pub added_climb : (case : Case) (settings : Settings) (old new : Climb) (raise : Raise) → IsClimb case settings old → IsRaiseFor case settings old raise → IsAdded raise old new → IsClimb case settings new
added_climb case settings old new raise climb is added = record {
  pickups = added.pickups ∙ climb.pickups;
  first_box =
      let P : List ℕ → List ℕ → Type 0 = λ ps ds. IsInFirstBox case (record { pickup = ps; dial = ds }) in
      subst (λ (ps : List ℕ). P ps new.low.dial.items) (sym added.pickups)
      (subst (λ (ds : List ℕ). P old.low.pickup.items ds) (sym added.dials)
      (redialled case old.low.pickup.items old.low.dial.items raise.link.relay raise.link.step is.on_step climb.first_box));
  raised =
      let P : List ℕ → List ℕ → List Raise → Type 0 = λ ds ls rs. AreRaised case settings.pickup ds ls rs in
      subst (λ (ds : List ℕ). P ds new.latest.items new.raises.items) (sym added.dials)
      (subst (λ (ls : List ℕ). P (set old.low.dial.items raise.link.relay raise.link.step) ls new.raises.items) (sym added.latest)
      (subst (λ (rs : List Raise). P (set old.low.dial.items raise.link.relay raise.link.step) (set old.latest.items raise.link.relay (length old.raises.items)) rs) (sym added.raises)
      (more_raised case settings settings.pickup old.low.dial.items old.latest.items old.raises.items raise climb.first_box.on_steps.dials climb.raised is.relay is.above is.earlier is.holds)));
}

-- the sum of the dials rises
pub added_higher : (case : Case) (settings : Settings) (old new : Climb) (raise : Raise) → IsClimb case settings old → IsRaiseFor case settings old raise → IsAdded raise old new
    → step_sum old.low.dial.items < step_sum new.low.dial.items
added_higher case settings old new raise climb is added =
    let written = sum_by-set (λ (step : ℕ). step) old.low.dial.items raise.link.relay raise.link.step 0 (omega (arith, is.relay, climb.first_box.on_steps.dials)) in
    let above = is.above in
    rw added.dials (omega (arith, written, above))

-- each relay has one dial step more than the number of its step
pub steps_bounded : (case : Case) (settings : Settings) → AreOnSteps case.study settings → length case.study.relays + step_sum settings.dial ≤ dial_steps case.study
steps_bounded case settings on_steps = go settings.dial case.study.relays on_steps.dials (λ i below. each i below)
  where
    each : (i : ℕ) → i < length case.study.relays → IsSomeAnd (slice_get case.study.relays i) (λ r. slice_index settings.dial i < r.dial_count)
    each i below =
        let there = in_list case.study.relays i below in
        let steps = of_some (slice_get case.study.relays i) (λ r. IsOnSteps r (slice_index settings.pickup i) (slice_index settings.dial i)) there.0 there.1 (on_steps.steps i) in
        and_some (slice_get case.study.relays i) (λ r. slice_index settings.dial i < r.dial_count) there.0 there.1 steps.dial_step

    go : (ds : List ℕ) (relays : List Relay) → length ds ≡ length relays → ((i : ℕ) → i < length relays → IsSomeAnd (slice_get relays i) (λ r. slice_index ds i < r.dial_count))
        → length relays + sum_by (λ (step : ℕ). step) ds ≤ sum_by (λ relay. relay.dial_count) relays
    go [] [] count each = omega arith
    go [] (r ∷ relays) count each = omega (arith, count)
    go (d ∷ ds) [] count each = omega (arith, count)
    go (d ∷ ds) (r ∷ relays) count each =
        let first = each 0 (omega arith) in
        let others = go ds relays (omega (arith, count)) (λ i below. each (suc i) (omega (arith, below))) in
        rw (sum_by-cons (λ (step : ℕ). step) d ds, sum_by-cons (λ (relay : Relay). relay.dial_count) r relays) (omega (arith, first, others))
