-- What a dual value can be worked out for (ours): a box with a step in each span, and weights of
-- rows.
use Rattle.std.specs.Prelude.{ℕ, ◌<◌, ◌≤◌, ◌==◌, ◌||◌, Bool, List, length, filter, All}
use Rattle.coord_model.specs.declared.weights.Weight.{Weight}
use Rattle.margin_rows.specs.Box.{Box, IsFilled}
use Rattle.margin_rows.specs.Case.{Case, row_at, rows_in}

-- the weights are of rows of the case, and at most 64
pub record FitWeights (case : Case) (weights : List Weight) : Type 0 where
  pub rows : All (λ w. w.row < length (rows_in case)) weights
  pub few : length weights ≤ 64

-- the box has a step in each span, and the weights are of the case's rows
pub record IsWeighed (case : Case) (box : Box) (weights : List Weight) : Type 0 where
  pub filled : IsFilled case box
  pub fit : FitWeights case weights

-- the row of the weight touches relay i: the relay is its primary or its backup
abbrev pub touches : Case → ℕ → Weight → Bool
touches case i w = let row = row_at case w.row in (row.primary == i) || (row.backup == i)

-- the weights of the rows that touch relay i
abbrev pub touching : Case → ℕ → List Weight → List Weight
touching case i weights = filter (touches case i) weights
