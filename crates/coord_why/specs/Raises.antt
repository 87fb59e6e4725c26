-- Raises of dials, each of which rests on an earlier one or on none.
use Rattle.std.specs.Prelude.{◌≡◌, ℕ, ◌+◌, ◌<◌, Option, Some, None, List, [], ◌∷◌, length, slice_get, IfSome, IsSomeAnd}
use Rattle.std.specs.Option.{option_map}
use Rattle.coord_why.specs.Links.{Holds}
use Rattle.coord_why.specs.declared.climb.Raise.{Raise}
use Rattle.coord_why.specs.declared.link.Link.{Link}
use Rattle.coord_why.specs.declared.link.Reason.TheVariants.{Floor}
use Rattle.margin_rows.specs.Case.{Case}

-- the link of the raise with this number, if there is a number
abbrev pub base_of : List Raise → Option ℕ → Option Link
base_of raises None = None
base_of raises (Some number) = option_map (λ raise. raise.link) (slice_get raises number)

-- each raise rests on an earlier one or on none
abbrev pub RestEarlier : List Raise → Type 0
RestEarlier raises =
    (number : ℕ) → IfSome (slice_get raises number)
    (λ raise. IfSome raise.rests (λ base. base < number))

-- the link of each raise holds after that of the one on which it rests
abbrev pub AreFounded : Case → List ℕ → List Raise → Type 0
AreFounded case pickups raises =
    (number : ℕ) → IfSome (slice_get raises number)
    (λ raise. Holds case pickups (base_of raises raise.rests) raise.link)

-- the raise to the first dial step of a relay
abbrev pub floor_of : ℕ → Raise
floor_of relay = record { link = record { relay = relay; step = 0; reason = Floor }; rests = None }

-- the raises are the first steps of so many relays
pub record AreFloors (relays : ℕ) (raises : List Raise) : Type 0 where
  pub count : length raises ≡ relays
  pub each : (relay : ℕ) → relay < relays → slice_get raises relay ≡ Some (floor_of relay)

-- the numbers are those below the count
pub record AreNumbers (count : ℕ) (numbers : List ℕ) : Type 0 where
  pub count_is : length numbers ≡ count
  pub each : (number : ℕ) → number < count → slice_get numbers number ≡ Some number

-- how many raises a way can still come through
abbrev pub rests_left : Option ℕ → ℕ
rests_left None = 0
rests_left (Some number) = number + 1

-- the first link on a way back is that of the last raise, or the way begins there
abbrev pub IsOnWay : List Raise → ℕ → Option ℕ → List Link → Type 0
IsOnWay raises last next [] = next ≡ Some last
IsOnWay raises last next (link ∷ links) =
    IsSomeAnd (slice_get raises last) (λ raise. raise.link ≡ link)
