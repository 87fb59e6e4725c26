-- Settings that are offered to a search, and those that it issues (ours).
use Rattle.std.specs.Prelude.{◌≡◌, ℕ, ◌+◌, ◌≤◌, nat_lt, List, Option, Some, None, map, IsSomeAnd, if◌then◌else◌}
use Rattle.coord_model.specs.Choice.{Settings}
use Rattle.margin_rows.specs.Box.{AreIn, Box}
use Rattle.margin_rows.specs.Case.{Case}
use Rattle.margin_rows.specs.Least.{IsStrictLeastOf}
use Rattle.margin_rows.specs.Price.{cost_of}
use Rattle.box_bound.specs.LowerBound.{IsPlainBound}

-- the settings that are issued once these are offered: the offered ones if there were none, or if
-- they cost less
abbrev pub offered : Case → Option Settings → Option Settings → Option Settings
offered case issued None = issued
offered case None (Some offer) = Some offer
offered case (Some held) (Some offer) =
    if nat_lt (cost_of case offer) (cost_of case held) then Some offer else Some held

-- the bound and the gap come to at least the cost of the issued settings
abbrev pub Reaches : Case → ℕ → Option Settings → ℕ → Type 0
Reaches case gap issued bound = IsSomeAnd issued (λ held. cost_of case held ≤ bound + gap)

-- the plain bound of the box does
pub record PlainReaches (case : Case) (gap : ℕ) (box : Box)
    (issued : Option Settings) : Type 0 where
  pub plain : ℕ
  pub exact : IsPlainBound case box plain
  pub reaches : Reaches case gap issued plain

-- the lowest pickup step of each relay in the box
abbrev pub lowest_pickups : Box → List ℕ
lowest_pickups box = map (λ span. span.low) box.pickup

-- what is offered for advised pickups: their strict-least settings, if the pickups are one a relay
-- and in their spans and there are such settings
pub record IsAdvisedOffer (case : Case) (box : Box) (pickups : List ℕ)
    (offer : Option Settings) : Type 0 where
  pub inside : AreIn box.pickup pickups → IsStrictLeastOf case pickups offer
  pub outside : ¬ (AreIn box.pickup pickups) → offer ≡ None
