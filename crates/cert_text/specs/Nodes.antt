-- Which nodes a certificate may have, and their lines (ours).
use Rattle.std.specs.Prelude.{◌≡◌, ℕ, ◌-◌, ◌^◌, ◌≤◌, List, [], ◌∷◌, ◌++◌, codes, length}
use Rattle.std.specs.Fmt.{decimal}
use Rattle.coord_model.specs.Tree.{Single}
use Rattle.coord_model.specs.TreeLimits.{AreLeafWeights}
use Rattle.coord_model.specs.declared.tree.NodeLine.{NodeLine}
use Rattle.coord_model.specs.declared.tree.NodeLine.TheVariants.{Split, Empty, Void, Bound, Hair, OpenLeaf}
use Rattle.coord_model.specs.declared.weights.Weight.{Weight}
use Rattle.cert_text.specs.Pairs.{AreWithin}

-- weights of a leaf, on the first 4,096 rows and of 32 bits
pub record AreWeights (weights : List Weight) : Type 0 where
  pub leaf : AreLeafWeights weights
  pub each : AreWithin 4095 (2 ^ 32 - 1) weights

-- the numbers of a node and its weights are within their limits
abbrev pub IsNodeWith : NodeLine → List Weight → Type 0
IsNodeWith (Split relay at) weights = (relay ≤ 95) × (at ≤ 63) × (weights ≡ [])
IsNodeWith Empty weights = weights ≡ []
IsNodeWith Void weights = (1 ≤ length weights) × AreWeights weights
IsNodeWith (Bound lambda) weights = ((1 ≤ lambda) × (lambda ≤ 2 ^ 32 - 1)) × AreWeights weights
IsNodeWith (Hair row) weights = (row ≤ 4095) × (weights ≡ [])
IsNodeWith (OpenLeaf lambda) weights = ((1 ≤ lambda) × (lambda ≤ 2 ^ 32 - 1)) × AreWeights weights

abbrev pub IsNode : Single → Type 0
IsNode node = IsNodeWith node.line node.weights

-- two numbers in a word, as `row:weight` or `pickup:dial`
abbrev pub pair_word : ℕ → ℕ → List ℕ
pair_word a b = decimal a ++ 58 ∷ decimal b

-- the words of the weights, each after a space
abbrev pub weight_words : List Weight → List ℕ
weight_words [] = []
weight_words (w ∷ ws) = 32 ∷ (pair_word w.row w.weight ++ weight_words ws)

-- the line of a node
abbrev pub words_with : NodeLine → List Weight → List ℕ
words_with (Split relay at) weights = codes "S " ++ (decimal relay ++ 32 ∷ decimal at)
words_with Empty weights = codes "E"
words_with Void weights = codes "V" ++ weight_words weights
words_with (Bound lambda) weights = codes "B " ++ (decimal lambda ++ weight_words weights)
words_with (Hair row) weights = codes "H " ++ decimal row
words_with (OpenLeaf lambda) weights = codes "O " ++ (decimal lambda ++ weight_words weights)

abbrev pub node_line : Single → List ℕ
node_line node = words_with node.line node.weights
