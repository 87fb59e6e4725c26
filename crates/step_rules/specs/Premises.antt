-- What the rules of a step ask of a box before they close or split it (ours).
use Rattle.std.specs.Prelude.{◌≡◌, ℕ, List, Option}
use Rattle.coord_model.specs.Choice.{Settings}
use Rattle.coord_model.specs.declared.weights.Weight.{Weight}
use Rattle.margin_rows.specs.Box.{Box}
use Rattle.margin_rows.specs.Case.{Case}
use Rattle.margin_rows.specs.Least.{IsStrictLeastOf}
use Rattle.margin_rows.specs.Lowest.{HasOnePickup}
use Rattle.step_rules.specs.Offers.{IsAdvisedOffer, PlainReaches, Reaches, lowest_pickups, offered}
use Rattle.step_rules.specs.Usable.{AreUsable, CanBound, HasBound, LeafWeights, ShowsVoid}

-- what an adviser said
pub record Advised : Type 0 where
  pub weights : LeafWeights
  pub relay : ℕ
  pub at : ℕ
  pub pickups : List ℕ

-- each relay has one pickup step in the tight box; the strict-least settings of these pickups are
-- offered
pub record IsSingle (case : Case) (tight : Box) (issued later : Option Settings) : Type 0 where
  pub one : HasOnePickup tight
  pub offer : Option Settings
  pub least : IsStrictLeastOf case (lowest_pickups tight) offer
  pub now : later ≡ offered case issued offer

-- some relay has several pickup steps, the plain bound does not reach the cutoff, and the adviser
-- was asked: the settings of its pickups and those of the lowest pickups are offered
pub record IsAsked (case : Case) (gap : ℕ) (tight : Box) (advised : Advised)
    (issued later : Option Settings) : Type 0 where
  pub several : ¬ (HasOnePickup tight)
  pub open_before : ¬ (PlainReaches case gap tight issued)
  pub first : Option Settings
  pub is_first : IsAdvisedOffer case tight advised.pickups first
  pub second : Option Settings
  pub is_second : IsStrictLeastOf case (lowest_pickups tight) second
  pub now : later ≡ offered case (offered case issued first) second

-- and the plain bound does not reach the cutoff after that
pub record IsUndecided (case : Case) (gap : ℕ) (tight : Box) (advised : Advised)
    (issued later : Option Settings) : Type 0 where
  pub asked : IsAsked case gap tight advised issued later
  pub open_after : ¬ (PlainReaches case gap tight later)

-- usable weights with a lambda whose bound reaches the cutoff
pub record ClosesBy (case : Case) (gap : ℕ) (tight : Box) (weights : LeafWeights)
    (later : Option Settings) : Type 0 where
  pub can : CanBound case weights
  pub bound : ℕ
  pub gives : HasBound case tight weights bound
  pub reaches : Reaches case gap later bound

-- usable weights that show that no settings of the box loosely meet every row
pub record IsVoidBy (case : Case) (tight : Box) (rows : List Weight) : Type 0 where
  pub usable : AreUsable case rows
  pub shows : ShowsVoid case tight rows
