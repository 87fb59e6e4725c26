-- Dials on their way up, with the raises that brought them there.
use Rattle.std.specs.Prelude.{◌≡◌, ℕ, Bool, true, false, ◌+◌, ◌<◌, ◌≤◌, List, [], ◌∷◌, ◌++◌, set, length, slice_get, slice_index, All, IsSomeAnd, IfSome}
use Rattle.coord_model.specs.Choice.{Settings, choice_data}
use Rattle.coord_why.specs.Links.{Holds}
use Rattle.coord_why.specs.Raises.{base_of, RestEarlier, AreFounded}
use Rattle.coord_why.specs.declared.climb.Climb.{Climb}
use Rattle.coord_why.specs.declared.climb.Raise.{Raise}
use Rattle.margin_rows.specs.Box.{IsDialStep}
use Rattle.margin_rows.specs.Case.{Case, rows_in, row_at}
use Rattle.margin_rows.specs.FirstBox.{IsInFirstBox}
use Rattle.margin_rows.specs.Margin.{MeetsLoosely}
use Rattle.margin_rows.specs.Raised.{step_sum}

-- the settings lie in the first box and loosely meet every row
pub record IsLooseChoice (case : Case) (settings : Settings) : Type 0 where
  pub first_box : IsInFirstBox case settings
  pub met : All (MeetsLoosely case settings) (rows_in case)

-- the relay's latest raise brought it to its dial step
abbrev pub IsLatest : List Raise → List ℕ → ℕ → ℕ → Type 0
IsLatest raises dials relay number =
    IsSomeAnd (slice_get raises number)
    (λ raise. (raise.link.relay ≡ relay) × (raise.link.step ≡ slice_index dials relay))

-- the raises are founded, and brought the relays to these dial steps
pub record AreRaised (case : Case) (pickups dials latest : List ℕ)
    (raises : List Raise) : Type 0 where
  pub earlier : RestEarlier raises
  pub founded : AreFounded case pickups raises
  pub count : length latest ≡ length case.study.relays
  pub reached : (relay : ℕ) → relay < length case.study.relays
      → IsLatest raises dials relay (slice_index latest relay)
  pub few : length raises ≤ length case.study.relays + step_sum dials

-- the climb has the pickups of the settings, and its raises brought it to its dials
pub record IsClimb (case : Case) (settings : Settings) (climb : Climb) : Type 0 where
  pub pickups : climb.low.pickup.items ≡ settings.pickup
  pub first_box : IsInFirstBox case (choice_data climb.low)
  pub raised : AreRaised case settings.pickup climb.low.dial.items climb.latest.items
      climb.raises.items

-- its dials loosely meet every row
abbrev pub IsTop : Case → Climb → Type 0
IsTop case climb = All (MeetsLoosely case (choice_data climb.low)) (rows_in case)

-- the raise is founded, and lifts a dial
pub record IsRaiseFor (case : Case) (settings : Settings) (climb : Climb)
    (raise : Raise) : Type 0 where
  pub relay : raise.link.relay < length case.study.relays
  pub on_step : IsDialStep case raise.link.relay raise.link.step
  pub above : slice_index climb.low.dial.items raise.link.relay < raise.link.step
  pub earlier : IfSome raise.rests (λ base. base < length climb.raises.items)
  pub holds : Holds case settings.pickup (base_of climb.raises.items raise.rests) raise.link

-- the climb has one raise more
pub record IsAdded (raise : Raise) (old new : Climb) : Type 0 where
  pub pickups : new.low.pickup.items ≡ old.low.pickup.items
  pub dials : new.low.dial.items ≡ set old.low.dial.items raise.link.relay raise.link.step
  pub latest : new.latest.items ≡ set old.latest.items raise.link.relay (length old.raises.items)
  pub raises : new.raises.items ≡ old.raises.items ++ raise ∷ []

-- what the first rows made of the climb: it is as before and meets them, or a dial rose
abbrev pub IsSoFar : Case → Climb → Climb → ℕ → Bool → Type 0
IsSoFar case old new row false =
    (new ≡ old) × ((k : ℕ) → k < row → MeetsLoosely case (choice_data new.low) (row_at case k))
IsSoFar case old new row true = step_sum old.low.dial.items < step_sum new.low.dial.items
