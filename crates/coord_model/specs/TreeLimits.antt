-- The limits of a tree and of the weights of its leaves (ours).
use Rattle.std.specs.Prelude.{◌-◌, ◌^◌, ◌≤◌, ⊤, List, length, All, map}
use Rattle.std.specs.List.Sorted.{IsStrictlyIncreasing}
use Rattle.coord_model.specs.Tree.{Tree, split, empty, void, bound, hair, open_leaf, depth, nodes_of}
use Rattle.coord_model.specs.declared.weights.Weight.{Weight}

-- the weights are at most 64, in the rising order of their rows, each from 1 to 2^32 - 1
pub record AreLeafWeights (weights : List Weight) : Type 0 where
  pub few : length weights ≤ 64
  pub ascending : IsStrictlyIncreasing (map (λ w. w.row) weights)
  pub some : All (λ w. 1 ≤ w.weight) weights
  pub small : All (λ w. w.weight ≤ 2 ^ 32 - 1) weights

-- the weights of each leaf keep their limits, and lambda is from 1 to 2^32 - 1 at a leaf with a bound
abbrev pub FitLeaves : Tree → Type 0
FitLeaves (split relay at low high) = FitLeaves low × FitLeaves high
FitLeaves empty = ⊤
FitLeaves (void weights) = AreLeafWeights weights
FitLeaves (bound lambda weights) = (1 ≤ lambda) × AreLeafWeights weights × (lambda ≤ 2 ^ 32 - 1)
FitLeaves (hair row) = ⊤
FitLeaves (open_leaf lambda weights) = (1 ≤ lambda) × AreLeafWeights weights × (lambda ≤ 2 ^ 32 - 1)

-- the tree is within the limits: at most 3,072 splits on a path, at most 400,001 nodes, and leaves with fit weights
pub record FitsTree (tree : Tree) : Type 0 where
  pub paths : depth tree ≤ 3072
  pub nodes : length (nodes_of tree) ≤ 400001
  pub leaves : FitLeaves tree
