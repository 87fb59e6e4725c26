-- What the top of a climb says of the dials that it was climbed for.
use Rattle.std.specs.Prelude.{slice_get, slice_index}
use Rattle.std.specs.Prelude.{IsFalse}
use Rattle.std.specs.List.{All, AllByRecursion}
use Rattle.std.specs.Option.{IsSomeAnd}
use Rattle.std.proofs.Common.{◌≡◌, ℕ, ◌<◌, ◌≤◌, List, [], ◌∷◌, length, Some, Option, arith, refl, sym, ap, ◌∙◌, subst, inl, inr, Bool, true, false, get_or}
use Rattle.std.proofs.lemmas.Bool.{cases_lt}
use Rattle.std.proofs.lemmas.List.{get_or_past}
use Rattle.std.proofs.lemmas.List.Elements.{All-from_recursion}
use Rattle.coord_model.specs.Choice.{Settings, choice_data}
use Rattle.coord_why.specs.Chains.{EndsAt, Follow, HasRow, IsLeastBelow, IsNamed, NeedsStep, dial_steps}
use Rattle.coord_why.specs.Climbs.{IsClimb, IsLooseChoice, IsSoFar, IsTop}
use Rattle.coord_why.specs.Links.{Holds, HoldsFor}
use Rattle.coord_why.specs.declared.climb.Climb.{Climb}
use Rattle.coord_why.specs.declared.climb.Raise.{Raise}
use Rattle.coord_why.specs.declared.link.Link.{Link}
use Rattle.coord_why.specs.declared.link.Reason.{Reason}
use Rattle.coord_why.specs.declared.link.Reason.TheVariants.{Floor, Least, Row as Waits}
use Rattle.coord_why.proofs.Added.{steps_bounded}
use Rattle.coord_why.proofs.Asked.{number_read}
use Rattle.coord_why.proofs.Forced.{dials_low}
use Rattle.margin_rows.specs.Box.{IsDialStep}
use Rattle.margin_rows.specs.Case.{Case, FitsCase, rows_in, row_at}
use Rattle.margin_rows.specs.Least.{AreLeast, MeetAll}
use Rattle.margin_rows.specs.Margin.{MeetsLoosely}
use Rattle.margin_rows.specs.declared.ends.Meeting.TheVariants.{Loose}
use Rattle.margin_rows.proofs.Boxed.{allowed_meets}
use Rattle.margin_rows.proofs.Placed.{all_rows}
use Rattle.margin_rows.proofs.Places.{some_and}
use Rattle.margin_rows.proofs.Written.{read_there}

-- the links of a chain are named
link_named : (case : Case) (pickups : List ℕ) (before : Option Link) (link : Link) → Holds case pickups before link → IsNamed case link
link_named case pickups before link holds = let named = go link.reason holds in record { step = named.0; row = named.1 }
  where
    placed : (row : ℕ) → (row_at case row).backup ≡ link.relay → IsDialStep case (row_at case row).backup link.step → IsDialStep case link.relay link.step
    placed row asks on_step = let P : ℕ → Type 0 = λ relay. IsDialStep case relay link.step in subst P asks on_step

    go : (reason : Reason) → HoldsFor reason case pickups before link → IsDialStep case link.relay link.step × HasRow case reason
    go Floor floor = (let P : ℕ → Type 0 = λ step. IsDialStep case link.relay step in subst P (sym floor.lowest) floor.on_step, tt)
    go (Least row) least = (placed row least.names.asks least.asked.on_step, least.names.is_row)
    go (Waits row) waits = (placed row waits.names.asks (some_and before _ waits.rests).2.1.on_step, waits.names.is_row)

pub follow_named : (case : Case) (pickups : List ℕ) (before : Option Link) (links : List Link) → Follow case pickups before links → All (IsNamed case) links
follow_named case pickups before links follow = All-from_recursion (IsNamed case) links (go before links follow)
  where
    go : (before : Option Link) (links : List Link) → Follow case pickups before links → AllByRecursion (IsNamed case) links
    go before [] follow = tt
    go before (link ∷ links) follow = (link_named case pickups before link follow.0, go (Some link) links follow.1)

-- a round in which no dial rose has met all rows
pub so_far_top : (case : Case) (old new : Climb) (count : ℕ) (rose : Bool) → length (rows_in case) ≤ count → IsSoFar case old new count rose → IsFalse rose → IsTop case new
so_far_top case old new count false covers so_far none = all_rows case (MeetsLoosely case (choice_data new.low)) count covers so_far.1
so_far_top case old new count true covers so_far none = absurd cc

-- links that end at a raise end at its relay and its step
pub ended : (raises : List Raise) (last : ℕ) (raise : Raise) (relay step : ℕ) (links : List Link) → slice_get raises last ≡ Some raise → raise.link.relay ≡ relay → raise.link.step ≡ step
    → IsSomeAnd (slice_get raises last) (λ raise. EndsAt links raise.link.relay raise.link.step) → EndsAt links relay step
ended raises last raise relay step links found relay_is step_is ends =
    let P : ℕ → ℕ → Type 0 = λ r s. EndsAt links r s in
    let here : EndsAt links raise.link.relay raise.link.step = rw found at ends in
    subst (λ (s : ℕ). P relay s) step_is (subst (λ (r : ℕ). P r raise.link.step) relay_is here)

-- a climb to the top has the least dials
module _ (case : Case) (settings : Settings) (climb : Climb) (is : IsClimb case settings climb) (top : IsTop case climb) where
  pub climb_least : AreLeast Loose case settings.pickup (choice_data climb.low)
  climb_least = record {
    meet = record { same_pickups = is.pickups; on_steps = is.first_box.on_steps; met = top };
    least = λ other loose i. least other loose i;
  }
    where
      least : (other : Settings) → MeetAll Loose case settings.pickup other → (i : ℕ) → slice_index climb.low.dial.items i ≤ slice_index other.dial i
      least other loose i = elim (cases_lt i (length case.study.relays)) [
        | inl below ↦ dials_low case settings.pickup other loose climb.low.dial.items climb.latest.items climb.raises.items is.raised i below
        | inr past ↦ omega (arith, get_or_past climb.low.dial.items i 0 (omega (arith, past, is.first_box.on_steps.dials)))
      ]

  -- so no allowed settings have a lower dial
  pub climb_needed : (relay step : ℕ) → FitsCase case → relay < length case.study.relays → step ≤ slice_index climb.low.dial.items relay
      → NeedsStep case.study case.currents settings.pickup relay step
  climb_needed relay step fits below low other allowed same =
      let loose : MeetAll Loose case settings.pickup other = record { same_pickups = same; on_steps = allowed.on_steps; met = allowed_meets case other fits allowed } in
      omega (arith, low, climb_least.least other loose relay)

  -- and the least step of a relay is that of the climb
  pub climb_refuses : (relay step : ℕ) → slice_index settings.dial relay ≤ slice_index climb.low.dial.items relay → IsLeastBelow case settings relay step → ⊥
  climb_refuses relay step low below =
      let least = climb_least.least below.least below.is_least.meet relay in
      omega (arith, low, least, below.at_step, below.below)

  -- the last raise of a relay, as the code reads it
  pub last_raise : (relay place last : ℕ) (raise : Raise) → relay < length case.study.relays → place ≡ relay → last ≡ get_or climb.latest.items place last
      → raise ≡ get_or climb.raises.items last raise
      → (slice_get climb.raises.items last ≡ Some raise) × (raise.link.relay ≡ relay) × (raise.link.step ≡ slice_index climb.low.dial.items relay)
  last_raise relay place last raise below placed last_read read =
      let last_is = number_read climb.latest.items place relay last placed (omega (arith, below, is.raised.count)) last_read in
      let there = read_there climb.raises.items climb.raises.items (slice_index climb.latest.items relay) last raise (λ r. (r.link.relay ≡ relay) × (r.link.step ≡ slice_index climb.low.dial.items relay))
      refl last_is read (is.raised.reached relay below) in
      (ap (λ (k : ℕ). slice_get climb.raises.items k) last_is ∙ there.0, there.1.0, there.1.1)

  -- dials that loosely meet every row are no lower than those of the climb
  pub climb_below : (relay : ℕ) → IsLooseChoice case settings → slice_index climb.low.dial.items relay ≤ slice_index settings.dial relay
  climb_below relay choice = climb_least.least settings (record { same_pickups = refl; on_steps = choice.first_box.on_steps; met = choice.met }) relay

  -- there are no more raises than dial steps
  pub climb_few : length climb.raises.items ≤ dial_steps case.study
  climb_few = omega (arith, is.raised.few, steps_bounded case (choice_data climb.low) is.first_box.on_steps)
