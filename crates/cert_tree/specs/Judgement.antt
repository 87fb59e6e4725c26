-- What becomes of a node by itself at its box (ours): it is right and gives a bound, or it is wrong.
use Rattle.std.specs.Prelude.{◌≡◌, ℕ, ◌≤◌, ⊤, ℤ, List, Option, Some, None, Result, Ok, Err}
use Rattle.coord_model.specs.Tree.{Single}
use Rattle.coord_model.specs.declared.tree.NodeLine.{NodeLine}
use Rattle.coord_model.specs.declared.tree.NodeLine.TheVariants.{Split, Empty, Void, Bound, Hair, OpenLeaf}
use Rattle.coord_model.specs.declared.weights.Weight.{Weight}
use Rattle.margin_rows.specs.Box.{Box}
use Rattle.margin_rows.specs.Case.{Case}
use Rattle.box_range.specs.Drops.{TightensTo}
use Rattle.box_bound.specs.DualValue.{IsDualValue}
use Rattle.box_bound.specs.LowerBound.{bound_at, IsPlainBound}
use Rattle.cert_tree.specs.NodeFaults.{IsFirstWrong}
use Rattle.cert_tree.specs.NodeRules.{IsRight}
use Rattle.cert_tree.specs.declared.kind.NodeKind.{NodeKind}

-- a node by its line and its weights
abbrev pub single : NodeLine → List Weight → Single
single line weights = record { line = line; weights = weights }

-- lambda is at least 1 at a leaf with a bound
abbrev pub HasLambda : NodeLine → Type 0
HasLambda (Split relay at) = ⊤
HasLambda Empty = ⊤
HasLambda Void = ⊤
HasLambda (Bound lambda) = 1 ≤ lambda
HasLambda (Hair row) = ⊤
HasLambda (OpenLeaf lambda) = 1 ≤ lambda

-- the bound is that of the dual value of the box
pub record IsDualBound (case : Case) (box : Box) (lambda : ℕ) (weights : List Weight) (bound : ℕ) : Type 0 where
  pub value : ℤ
  pub dual : IsDualValue case box lambda weights value
  pub is : bound ≡ bound_at value lambda

-- what a node gives by itself: a leaf that is neither `Empty` nor `Void` a bound, any other none
abbrev pub Gives : Case → Box → List Weight → NodeLine → Option ℕ → Type 0
Gives case box weights (Split relay at) given = given ≡ None
Gives case box weights Empty given = given ≡ None
Gives case box weights Void given = given ≡ None
Gives case box weights (Bound lambda) given =
    (tight : Box) × (bound : ℕ) × TightensTo case box tight
    × IsDualBound case tight lambda weights bound × (given ≡ Some bound)
Gives case box weights (Hair row) given =
    (tight : Box) × (bound : ℕ) × TightensTo case box tight
    × IsPlainBound case tight bound × (given ≡ Some bound)
Gives case box weights (OpenLeaf lambda) given =
    (bound : ℕ) × IsDualBound case box lambda weights bound × (given ≡ Some bound)

-- the node is right at its box, and gives this
pub record IsRightWith (case : Case) (box : Box) (node : Single) (given : Option ℕ) : Type 0 where
  pub right : IsRight case box node
  pub gives : Gives case box node.weights node.line given

-- the answer is what becomes of the node: what it gives if it is right, else the first way in which it is wrong
abbrev pub IsJudged : Case → Box → Single → Result (Option ℕ) NodeKind → Type 0
IsJudged case box node (Ok given) = IsRightWith case box node given
IsJudged case box node (Err kind) = IsFirstWrong case box node kind
