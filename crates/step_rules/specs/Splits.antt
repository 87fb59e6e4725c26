-- Where a box is split, and which weights its halves have (ours).
use Rattle.std.specs.Prelude.{◌≡◌, ℕ, ◌<◌, List, [], ◌∷◌, Option, Some, None, slice_get, IfSome, IsSomeAnd}
use Rattle.margin_rows.specs.Box.{Box}
use Rattle.margin_rows.specs.Case.{Case}
use Rattle.margin_rows.specs.Halves.{AreHalves, CanSplit}
use Rattle.step_rules.specs.Premises.{Advised}
use Rattle.step_rules.specs.Usable.{AreBestOf, CanBound, LeafWeights, plain_weights}

-- the weights that a half of a split may take: the plain ones, those of the box, and the advised
-- ones if they are usable
abbrev pub candidates : LeafWeights → Option LeafWeights → List LeafWeights
candidates own None = plain_weights ∷ own ∷ []
candidates own (Some advised) = plain_weights ∷ own ∷ advised ∷ []

-- the advised weights, if they are usable and have a lambda
pub record IsUsedAdvice (case : Case) (weights : LeafWeights)
    (used : Option LeafWeights) : Type 0 where
  pub yes_where : CanBound case weights → used ≡ Some weights
  pub none_where : ¬ (CanBound case weights) → used ≡ None
  pub can : IfSome used (CanBound case)

-- the first relay with two pickup steps, at its lowest
pub record IsFirstSplit (tight : Box) (relay at : ℕ) : Type 0 where
  pub can : CanSplit tight relay at
  pub lowest : IsSomeAnd (slice_get tight.pickup relay) (λ span. at ≡ span.low)
  pub before : (earlier step : ℕ) → earlier < relay → ¬ (CanSplit tight earlier step)

-- where the box is split: where the adviser says, if it can be split there, else at the first relay
-- with two steps
pub record IsSplitPlace (tight : Box) (advised : Advised) (relay at : ℕ) : Type 0 where
  pub as_advised : CanSplit tight advised.relay advised.at
      → (relay ≡ advised.relay) × (at ≡ advised.at)
  pub else_first : ¬ (CanSplit tight advised.relay advised.at) → IsFirstSplit tight relay at

-- the two halves of the tight box, each with its best weights
pub record IsSplit (case : Case) (tight : Box) (own : LeafWeights) (advised : Advised)
    (relay at : ℕ) (low high : LeafWeights) : Type 0 where
  pub place : IsSplitPlace tight advised relay at
  pub used : Option LeafWeights
  pub is_used : IsUsedAdvice case advised.weights used
  pub lower : Box
  pub upper : Box
  pub halves : AreHalves tight relay at lower upper
  pub low_bound : ℕ
  pub low_best : AreBestOf case lower (candidates own used) low low_bound
  pub high_bound : ℕ
  pub high_best : AreBestOf case upper (candidates own used) high high_bound
