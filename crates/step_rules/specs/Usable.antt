-- Weights of rows that a bound may rest on, and the best of several (ours).
use Rattle.std.specs.Prelude.{◌≡◌, ℕ, ◌-◌, ◌^◌, ◌<◌, ◌≤◌, ℤ, pos, ◌<ℤ◌, List, [], Some, length, slice_get, All, IfSome}
use Rattle.coord_model.specs.Tree.{Tree, open_leaf}
use Rattle.coord_model.specs.TreeLimits.{AreLeafWeights}
use Rattle.coord_model.specs.declared.weights.Weight.{Weight}
use Rattle.coord_model.specs.declared.weights.Weights.{Weights}
use Rattle.margin_rows.specs.Box.{Box}
use Rattle.margin_rows.specs.Case.{Case, rows_in}
use Rattle.box_bound.specs.DualValue.{IsDualValue}
use Rattle.box_bound.specs.LowerBound.{bound_at}

-- the weights of a leaf with a bound: lambda for the cost, and those of rows
pub record LeafWeights : Type 0 where
  pub lambda : ℕ
  pub rows : List Weight

-- the weights, without the room that their list holds
abbrev pub leaf_weights : Weights → LeafWeights
leaf_weights weights = record { lambda = weights.lambda; rows = weights.rows.items }

-- an open leaf with these weights
abbrev pub open_with : LeafWeights → Tree
open_with weights = open_leaf weights.lambda weights.rows

-- lambda 1 and no rows: the weights of the plain bound
abbrev pub plain_weights : LeafWeights
plain_weights = record { lambda = 1; rows = [] }

-- the weights may be used: at most 64, in the rising order of their rows, of rows of the case, each
-- from 1 to 2^32 - 1
pub record AreUsable (case : Case) (rows : List Weight) : Type 0 where
  pub fit : AreLeafWeights rows
  pub named : All (λ w. w.row < length (rows_in case)) rows

-- the weights give boxes of the case a bound: those of rows are usable, and lambda is from 1 to
-- 2^32 - 1
pub record CanBound (case : Case) (weights : LeafWeights) : Type 0 where
  pub usable : AreUsable case weights.rows
  pub some_lambda : 1 ≤ weights.lambda
  pub small_lambda : weights.lambda ≤ 2 ^ 32 - 1

-- the dual value of the box without the cost is above 0
pub record ShowsVoid (case : Case) (box : Box) (rows : List Weight) : Type 0 where
  pub value : ℤ
  pub dual : IsDualValue case box 0 rows value
  pub above : pos 0 <ℤ value

-- the weights give the box this bound
pub record HasBound (case : Case) (box : Box) (weights : LeafWeights) (bound : ℕ) : Type 0 where
  pub value : ℤ
  pub dual : IsDualValue case box weights.lambda weights.rows value
  pub exact : bound ≡ bound_at value weights.lambda

-- the weights give the box a bound that is at most this one
pub record IsBoundBelow (case : Case) (box : Box) (weights : LeafWeights) (limit : ℕ) : Type 0 where
  pub bound : ℕ
  pub gives : HasBound case box weights bound
  pub at_most : bound ≤ limit

-- of several weights these give the box its greatest bound, and no earlier ones do
pub record AreBestOf (case : Case) (box : Box) (several : List LeafWeights) (best : LeafWeights)
    (bound : ℕ) : Type 0 where
  pub place : ℕ
  pub stands : slice_get several place ≡ Some best
  pub gives : HasBound case box best bound
  pub before : (i c : ℕ) → i < place
      → IfSome (slice_get several i) (λ other. HasBound case box other c → c < bound)
  pub others : (i c : ℕ)
      → IfSome (slice_get several i) (λ other. HasBound case box other c → c ≤ bound)
