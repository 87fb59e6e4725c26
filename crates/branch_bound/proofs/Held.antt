-- A tree whose nodes are all right holds, with some bound.
use Rattle.std.proofs.Common.{ℕ, [], Option, refl}
use Rattle.coord_model.specs.Tree.{Tree, bound, empty, hair, open_leaf, split, void}
use Rattle.margin_rows.specs.Box.{Box, FitsBox}
use Rattle.margin_rows.specs.Case.{Case}
use Rattle.box_bound.proofs.DualValues.{dual_value_of}
use Rattle.cert_tree.specs.Holding.{Holds, at_bound, at_empty, at_hair, at_open_leaf, at_split, at_void}
use Rattle.cert_tree.specs.NodeRules.{IsRight}
use Rattle.cert_tree.proofs.TightBoxes.{tight_fits}
use Rattle.cert_tree.proofs.TreeLaws.{halves_fit}
use Rattle.branch_bound.specs.Facts.{Every}

pub held : (case : Case) (box : Box) (tree : Tree) → FitsBox case box → Every case (IsRight case) box tree → (b : Option ℕ) × Holds case box tree b
held case box (split relay at below above) fits (low, high, node, halves, all_low, all_high) =
    let fit = halves_fit case box relay at below above low high fits node halves in
    let a = held case low below fit.0 all_low in
    let b = held case high above fit.1 all_high in
    (_, at_split node halves a.1 b.1)
held case box empty fits node = (_, at_empty node)
held case box (void weights) fits node = (_, at_void node)
held case box (bound lambda weights) fits node =
    let tight = node.asks.0 in
    let fit = tight_fits case box tight fits node.asks.1 in
    let dual = dual_value_of case lambda weights tight fit.pickups fit.dials node.asks.1.no_more.steps in
    (_, at_bound node node.asks.1 dual.1)
held case box (hair row) fits node =
    let tight = node.asks.0 in
    let fit = tight_fits case box tight fits node.asks.1 in
    let dual = dual_value_of case 1 [] tight fit.pickups fit.dials node.asks.1.no_more.steps in
    (_, at_hair node node.asks.1 (dual.0, dual.1, refl))
held case box (open_leaf lambda weights) fits node =
    let dual = dual_value_of case lambda weights box fits.pickups fits.dials node.asks in
    (_, at_open_leaf node dual.1)
