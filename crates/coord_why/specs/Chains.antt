-- Why the dial of a relay can't be lower with given pickups (ours): a chain of links, each of which
-- rests on the one before it alone.
use Rattle.std.specs.Prelude.{◌≡◌, ℕ, ◌-◌, ◌<◌, ◌≤◌, sum_by, Option, Some, None, List, [], ◌∷◌, length, slice_get, slice_index, IsSomeAnd}
use Rattle.coord_model.specs.Allowed.{IsAllowed}
use Rattle.coord_model.specs.Choice.{Settings}
use Rattle.coord_model.specs.StudyData.{StudyData}
use Rattle.coord_model.specs.declared.study.Current.{Current}
use Rattle.coord_why.specs.Links.{Holds}
use Rattle.coord_why.specs.declared.fault.ChainFault.{ChainFault}
use Rattle.coord_why.specs.declared.fault.ChainFault.TheVariants.{NotLeast, NoMemory}
use Rattle.coord_why.specs.declared.link.Link.{Link}
use Rattle.coord_why.specs.declared.link.Reason.{Reason}
use Rattle.coord_why.specs.declared.link.Reason.TheVariants.{Floor, Least, Row}
use Rattle.margin_rows.specs.Box.{IsDialStep}
use Rattle.margin_rows.specs.Case.{Case, rows_in}
use Rattle.margin_rows.specs.Least.{AreLeast}
use Rattle.margin_rows.specs.declared.ends.Meeting.TheVariants.{Loose}

-- each link holds after the one before it; `before` is the link before the first, if there is one
abbrev pub Follow : Case → List ℕ → Option Link → List Link → Type 0
Follow case pickups before [] = Unit {0}
Follow case pickups before (link ∷ links) =
    Holds case pickups before link × Follow case pickups (Some link) links

-- the links are a chain: no link comes before the first
abbrev pub IsChain : Case → List ℕ → List Link → Type 0
IsChain case pickups links = Follow case pickups None links

-- there is a last link, and it is one of the relay at this step
abbrev pub EndsAt : List Link → ℕ → ℕ → Type 0
EndsAt links relay step =
    IsSomeAnd (slice_get links (length links - 1))
    (λ link. (link.relay ≡ relay) × (link.step ≡ step))

-- the row of the reason, if it has one, is a row of the case
abbrev pub HasRow : Case → Reason → Type 0
HasRow case Floor = Unit {0}
HasRow case (Least row) = row < length (rows_in case)
HasRow case (Row row) = row < length (rows_in case)

-- the link names a dial step of a relay and a row that are there
pub record IsNamed (case : Case) (link : Link) : Type 0 where
  pub step : IsDialStep case link.relay link.step
  pub row : HasRow case link.reason

-- the number of dial steps of all relays
abbrev pub dial_steps : StudyData → ℕ
dial_steps study = sum_by (λ relay. relay.dial_count) study.relays

-- all allowed settings with these pickups have at least this dial step at the relay
abbrev pub NeedsStep : StudyData → List Current → List ℕ → ℕ → ℕ → Type 0
NeedsStep study currents pickups relay step =
    (settings : Settings) → IsAllowed study currents settings → settings.pickup ≡ pickups
    → step ≤ slice_index settings.dial relay

-- the loosely least dial step of the relay for the pickups of the settings, which is below theirs
pub record IsLeastBelow (case : Case) (settings : Settings) (relay step : ℕ) : Type 0 where
  pub least : Settings
  pub is_least : AreLeast Loose case settings.pickup least
  pub at_step : slice_index least.dial relay ≡ step
  pub below : step < slice_index settings.dial relay

-- why there is no chain to the dial of the relay
abbrev pub HasCause : Case → Settings → ℕ → ChainFault → Type 0
HasCause case settings relay (NotLeast step) = IsLeastBelow case settings relay step
HasCause case settings relay NoMemory = Unit {0}
