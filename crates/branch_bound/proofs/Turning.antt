-- What is true of each node stays true when one open leaf is turned.
use Rattle.std.proofs.Common.{subst}
use Rattle.coord_model.specs.Tree.{Single, Tree, bound, empty, hair, open_leaf, root, split, void}
use Rattle.margin_rows.specs.Box.{Box, FitsBox}
use Rattle.margin_rows.specs.Case.{Case}
use Rattle.cert_tree.specs.NodeRules.{IsRight}
use Rattle.cert_tree.proofs.TreeLaws.{halves_fit, same_halves}
use Rattle.step_rules.specs.Usable.{LeafWeights, open_with}
use Rattle.branch_bound.specs.Facts.{Every}
use Rattle.branch_bound.specs.Machine.{Turns, here, in_high, in_low}

-- a fact of each node follows from another
pub every_map : (case : Case) (P Q : Box → Single → Type 0) (box : Box) (tree : Tree) → ((b : Box) (node : Single) → P b node → Q b node) → Every case P box tree → Every case Q box tree
every_map case P Q box (split relay at below above) f (low, high, node, halves, all_low, all_high) =
    (low, high, f box (root (split relay at below above)) node, halves, every_map case P Q low below f all_low, every_map case P Q high above f all_high)
every_map case P Q box empty f node = f box (root empty) node
every_map case P Q box (void weights) f node = f box (root (void weights)) node
every_map case P Q box (bound lambda weights) f node = f box (root (bound lambda weights)) node
every_map case P Q box (hair row) f node = f box (root (hair row)) node
every_map case P Q box (open_leaf lambda weights) f node = f box (root (open_leaf lambda weights)) node

-- a fact of each node is carried through a turn: others keep it, and the tree that takes the leaf's place has it
pub every_turns : (case : Case) (P Q : Box → Single → Type 0) (R : Box → LeafWeights → Tree → Type 0) (box : Box) (before after : Tree)
    → ((b : Box) (node : Single) → P b node → IsRight case b node) → ((b : Box) (node : Single) → P b node → Q b node)
    → ((b : Box) (own : LeafWeights) (later : Tree) → FitsBox case b → P b (root (open_with own)) → R b own later → Every case Q b later)
    → FitsBox case box → Turns case R box before after → Every case P box before → Every case Q box after
every_turns case P Q R box before after right keep turn fits (here {own = own} {later = later} r) all = turn box own later fits all r
every_turns case P Q R box before after right keep turn fits (in_low {low = l} {high = h} {relay = relay} {at = at} {below = below} {above = above} {later = later} halves turns) (low, high, node, are, all_low, all_high) =
    let same = same_halves case box relay at below above low high l h (right box _ node) are halves in
    let fit = halves_fit case box relay at below above l h fits (right box _ node) halves in (
      l,
      h,
      keep box _ node,
      halves,
      every_turns case P Q R l below later right keep turn fit.0 turns (subst (λ (b : Box). Every case P b below) same.0 all_low),
      every_map case P Q h above keep (subst (λ (b : Box). Every case P b above) same.1 all_high),
    )
every_turns case P Q R box before after right keep turn fits (in_high {low = l} {high = h} {relay = relay} {at = at} {below = below} {above = above} {later = later} halves turns) (low, high, node, are, all_low, all_high) =
    let same = same_halves case box relay at below above low high l h (right box _ node) are halves in
    let fit = halves_fit case box relay at below above l h fits (right box _ node) halves in (
      l,
      h,
      keep box _ node,
      halves,
      every_map case P Q l below keep (subst (λ (b : Box). Every case P b below) same.0 all_low),
      every_turns case P Q R h above later right keep turn fit.1 turns (subst (λ (b : Box). Every case P b above) same.1 all_high),
    )
