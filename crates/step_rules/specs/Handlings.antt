-- What became of an open box, as the tree of a certificate, and its halves (ours).
use Rattle.std.specs.Prelude.{ℕ, ◌≤◌, ⊤}
use Rattle.coord_model.specs.Tree.{Tree, split, empty, void, bound, hair}
use Rattle.margin_rows.specs.Box.{Box}
use Rattle.margin_rows.specs.Case.{Case}
use Rattle.margin_rows.specs.Halves.{AreHalves}
use Rattle.box_range.specs.Drops.{TightensTo}
use Rattle.advice.specs.declared.adviser.Advice.{Advice}
use Rattle.step_rules.specs.OpenBoxes.{IsOpenBox}
use Rattle.step_rules.specs.Premises.{Advised}
use Rattle.step_rules.specs.Splits.{IsSplit}
use Rattle.step_rules.specs.Usable.{LeafWeights, leaf_weights, open_with}
use Rattle.step_rules.specs.declared.handling.Handling.{Handling}
use Rattle.step_rules.specs.declared.handling.Handling.TheVariants.{Empty, Void, Bound, Hair, Split}
use Rattle.step_rules.specs.declared.open_box.OpenBox.{OpenBox}

-- the tree that the box becomes; its halves are open leaves
abbrev pub tree_of : Handling → Tree
tree_of Empty = empty
tree_of (Void rows) = void rows.items
tree_of (Bound weights) = bound weights.lambda weights.rows.items
tree_of (Hair row) = hair row
tree_of (Split relay at low high) =
    split relay at (open_with (leaf_weights low.weights)) (open_with (leaf_weights high.weights))

-- what an adviser said, without the room of its lists
abbrev pub advised_of : Advice → Advised
advised_of advice = record {
  weights = leaf_weights advice.weights;
  relay = advice.relay;
  at = advice.at;
  pickups = advice.pickups.items;
}

-- the open boxes are the halves of the tight box of another, with bounds not below its own
pub record AreOpenHalves (case : Case) (parent : OpenBox) (relay at : ℕ)
    (low high : OpenBox) : Type 0 where
  pub tight : Box
  pub tightens : TightensTo case parent.ranges tight
  pub halves : AreHalves tight relay at low.ranges high.ranges
  pub low_open : IsOpenBox case low
  pub high_open : IsOpenBox case high
  pub low_not_below : parent.bound ≤ low.bound
  pub high_not_below : parent.bound ≤ high.bound

-- a box that is split leaves its open halves
abbrev pub LeavesHalves : Case → OpenBox → Handling → Type 0
LeavesHalves case parent (Split relay at low high) = AreOpenHalves case parent relay at low high
LeavesHalves case parent Empty = ⊤
LeavesHalves case parent (Void rows) = ⊤
LeavesHalves case parent (Bound weights) = ⊤
LeavesHalves case parent (Hair row) = ⊤

-- the box is split, its halves with their best weights
abbrev pub IsDivided : Case → Box → LeafWeights → Advised → Handling → Type 0
IsDivided case tight own advised (Split relay at low high) =
    IsSplit case tight own advised relay at (leaf_weights low.weights) (leaf_weights high.weights)
IsDivided case tight own advised Empty = ⊥
IsDivided case tight own advised (Void rows) = ⊥
IsDivided case tight own advised (Bound weights) = ⊥
IsDivided case tight own advised (Hair row) = ⊥
