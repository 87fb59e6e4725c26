-- A walk passes a tree that holds at its first due box, refuses one that fails there, and goes one way only.
use Rattle.std.specs.Prelude.{Option, None, false}
use Rattle.std.proofs.Common.{◌≡◌, ◌↔◌, ℕ, suc, ◌+◌, inl, inr, List, [], ◌∷◌, All, length, arith, refl, sym, ◌∙◌, ap, subst}
use Rattle.coord_model.specs.Tree.{Single, Tree, split, empty, void, bound, hair, open_leaf, nodes_of, root}
use Rattle.coord_model.specs.declared.tree.NodeLine.{NodeLine}
use Rattle.coord_model.specs.declared.tree.NodeLine.TheVariants.{Split, Empty, Void, Bound, Hair, OpenLeaf}
use Rattle.margin_rows.specs.Box.{Box, FitsBox}
use Rattle.margin_rows.specs.Case.{Case}
use Rattle.cert_tree.specs.Counting.{both, counts_by}
use Rattle.cert_tree.specs.Endings.{counts_of}
use Rattle.cert_tree.specs.Holding.{AreTightHalves, Fails, Holds, lower}
use Rattle.cert_tree.specs.NodeFaults.{IsFirstWrong}
use Rattle.cert_tree.specs.NodeRules.{Asks, IsRight}
use Rattle.cert_tree.specs.TreeWalks.{GivesAsTree, IsPast, LeadsToOne, RefusesIfFails, TakesIfHolds, past_tree, walk_at}
use Rattle.cert_tree.specs.Walks.{AreDueAfter, AtFirst, Refuses, Takes, Walk, Walked}
use Rattle.cert_tree.specs.declared.counts.Counts.{Counts}
use Rattle.cert_tree.specs.declared.kind.NodeKind.{NodeKind}
use Rattle.cert_tree.proofs.TreeLaws.{FailParts, LeafFails, LeafHolds, at_root, fail_parts, gives_only, in_high, in_low, parts, same_halves}
use Rattle.cert_tree.proofs.WalkLaws.{lower_none, refused_after, refused_in_front, taken_at, walked_join, walked_one}
use Rattle.cert_tree.proofs.WalkedTrees.{refused_tree, same_walk, split_past, walk_counts, walk_due, walk_holds, walked_tree}

-- a leaf that holds is taken
leaf_walked : (case : Case) (leaf : Tree) (box : Box) (others : List Box) (before : Walk) (given : Option ℕ) → before.due ≡ box ∷ others → length (nodes_of leaf) ≡ 1
    → counts_by (root leaf).line ≡ counts_of leaf → AreDueAfter case box others (root leaf).line others → LeafHolds case box leaf given
    → Walked case before (root leaf ∷ []) (past_tree before others leaf given)
leaf_walked case leaf box others before given is one counts due holds =
    walked_one case before (root leaf) (past_tree before others leaf given)
    (record {
      box = box;
      others = others;
      given = given;
      first = is;
      right = record { right = holds.right; gives = holds.gives };
      due = due;
      nodes = omega (arith, one);
      counts = ap (both before.counts) (sym counts);
      bound = refl;
      refused = refl;
    })

-- the walk after a split that is right
module _ (case : Case) (relay at : ℕ) (below above : Tree) (box low high : Box) (others : List Box) (before : Walk) (is : before.due ≡ box ∷ others)
    (right : IsRight case box (root (split relay at below above))) (halves : AreTightHalves case box relay at low high) where
  abbrev at_halves : Walk
  at_halves = record {
    due = low ∷ high ∷ others;
    nodes = suc before.nodes;
    counts = both before.counts (counts_by (Split relay at));
    bound = lower before.bound None;
    refused = false;
  }

  split_taken : Takes case before (root (split relay at below above)) at_halves
  split_taken = record {
    box = box;
    others = others;
    given = None;
    first = is;
    right = record { right = right; gives = refl };
    due = (low, high, halves, refl);
    nodes = refl;
    counts = refl;
    bound = refl;
    refused = refl;
  }

-- the walk takes the nodes of a tree that holds at the first due box
pub tree_walked : (case : Case) (tree : Tree) (box : Box) (others : List Box) (before : Walk) (given : Option ℕ) → before.due ≡ box ∷ others → Holds case box tree given
    → Walked case before (nodes_of tree) (past_tree before others tree given)
tree_walked case (split relay at below above) box others before given is holds =
    let p = parts case box (split relay at below above) given holds in
    let mid = at_halves case relay at below above box p.low p.high others before is p.right p.halves in
    let takes = split_taken case relay at below above box p.low p.high others before is p.right p.halves in
    let half = past_tree mid (p.high ∷ others) below p.low_bound in
    let end = past_tree half others above p.high_bound in
    let first = tree_walked case below p.low (p.high ∷ others) mid p.low_bound refl p.low_holds in
    let second = tree_walked case above p.high others half p.high_bound refl p.high_holds in
    let past = split_past case before mid half end relay at below above p.low p.high others p.low_bound p.high_bound refl refl (lower_none before.bound) refl refl in
    let all : Walked case before (nodes_of (split relay at below above)) end = (mid, takes, walked_join case (nodes_of below) (nodes_of above) mid half end first second) in
    subst (λ (b : Option ℕ). Walked case before (nodes_of (split relay at below above)) (past_tree before others (split relay at below above) b)) (sym p.is)
    (subst (λ (w : Walk). Walked case before (nodes_of (split relay at below above)) w) past all)
tree_walked case empty box others before given is holds = leaf_walked case empty box others before given is (omega arith) refl refl (parts case box empty given holds)
tree_walked case (void weights) box others before given is holds =
    leaf_walked case (void weights) box others before given is (omega arith) refl refl (parts case box (void weights) given holds)
tree_walked case (bound lambda weights) box others before given is holds =
    leaf_walked case (bound lambda weights) box others before given is (omega arith) refl refl (parts case box (bound lambda weights) given holds)
tree_walked case (hair row) box others before given is holds = leaf_walked case (hair row) box others before given is (omega arith) refl refl (parts case box (hair row) given holds)
tree_walked case (open_leaf lambda weights) box others before given is holds =
    leaf_walked case (open_leaf lambda weights) box others before given is (omega arith) refl refl (parts case box (open_leaf lambda weights) given holds)

-- a node that is wrong at the first due box
first_refused : (case : Case) (node : Single) (box : Box) (others : List Box) (before : Walk) (number : ℕ) (kind : NodeKind) → before.due ≡ box ∷ others → number ≡ 1
    → IsFirstWrong case box node kind → AtFirst (λ b. IsFirstWrong case b node kind) before.due × (number ≡ 1)
first_refused case node box others before number kind is first wrong = (subst (λ (xs : List Box). AtFirst (λ b. IsFirstWrong case b node kind) xs) (sym is) wrong, first)

-- the walk refuses a tree that fails at the first due box, at the node at which it fails
pub tree_refused : (case : Case) (tree : Tree) (box : Box) (others : List Box) (before : Walk) (number : ℕ) (kind : NodeKind) → before.due ≡ box ∷ others → Fails case box tree number kind
    → Refuses case before (nodes_of tree) number kind
tree_refused case (split relay at below above) box others before number kind is fails = elim (fail_parts case box (split relay at below above) number kind fails) [
  | at_root first wrong ↦ inl (first_refused case (root (split relay at below above)) box others before number kind is first wrong)
  | in_low low high more right halves low_fails same ↦
      let mid = at_halves case relay at below above box low high others before is right halves in
      let refused = tree_refused case below low (high ∷ others) mid more kind refl low_fails in
      inr (mid, more, split_taken case relay at below above box low high others before is right halves, refused_in_front case (nodes_of below) (nodes_of above) mid more kind refused, same)
  | in_high low high a more right halves low_holds high_fails same ↦
      let mid = at_halves case relay at below above box low high others before is right halves in
      let half = past_tree mid (high ∷ others) below a in
      let walked = tree_walked case below low (high ∷ others) mid a refl low_holds in
      let refused = tree_refused case above high others half more kind refl high_fails in
      inr (
        mid,
        length (nodes_of below) + more,
        split_taken case relay at below above box low high others before is right halves,
        refused_after case (nodes_of below) (nodes_of above) mid half more kind walked refused,
        same,
      )
]
tree_refused case empty box others before number kind is fails =
    let f = fail_parts case box empty number kind fails in
    inl (first_refused case (root empty) box others before number kind is f.first f.wrong)
tree_refused case (void weights) box others before number kind is fails =
    let f = fail_parts case box (void weights) number kind fails in
    inl (first_refused case (root (void weights)) box others before number kind is f.first f.wrong)
tree_refused case (bound lambda weights) box others before number kind is fails =
    let f = fail_parts case box (bound lambda weights) number kind fails in
    inl (first_refused case (root (bound lambda weights)) box others before number kind is f.first f.wrong)
tree_refused case (hair row) box others before number kind is fails =
    let f = fail_parts case box (hair row) number kind fails in
    inl (first_refused case (root (hair row)) box others before number kind is f.first f.wrong)
tree_refused case (open_leaf lambda weights) box others before number kind is fails =
    let f = fail_parts case box (open_leaf lambda weights) number kind fails in
    inl (first_refused case (root (open_leaf lambda weights)) box others before number kind is f.first f.wrong)

-- the boxes that are due after a node are these alone
due_only : (case : Case) (box : Box) (others : List Box) (node : Single) (line : NodeLine) (a b : List Box) → Asks case box node line → AreDueAfter case box others line a
    → AreDueAfter case box others line b → a ≡ b
due_only case box others node (Split relay at) a b asks x y =
    let right : IsRight case box (root (split relay at empty empty)) =
    record { names = record { weighed = λ i d below. absurd (omega (arith, below)); hair = λ row is. cc }; asks = asks } in
    let same = same_halves case box relay at empty empty x.0 x.1 y.0 y.1 right x.2 y.2 in
    x.3 ∙ ap (λ (l : Box). l ∷ x.1 ∷ others) same.0 ∙ ap (λ (h : Box). y.0 ∷ h ∷ others) same.1 ∙ sym y.3
due_only case box others node Empty a b asks x y = x ∙ sym y
due_only case box others node Void a b asks x y = x ∙ sym y
due_only case box others node (Bound lambda) a b asks x y = x ∙ sym y
due_only case box others node (Hair row) a b asks x y = x ∙ sym y
due_only case box others node (OpenLeaf lambda) a b asks x y = x ∙ sym y

first_fits : (case : Case) (box : Box) (others due : List Box) → due ≡ box ∷ others → All (FitsBox case) due → FitsBox case box
first_fits case box others due is all = (subst (λ (xs : List Box). All (FitsBox case) xs) is all) 0 box (omega arith)

pub takes_if_holds : TakesIfHolds
takes_if_holds case box others tree before after is = (
  λ walked. walked_tree case tree box others before after is walked,
  λ past.
      subst (λ (w : Walk). Walked case before (nodes_of tree) w) (sym past.2) (tree_walked case tree box others before past.0 is past.1),
)

pub refuses_if_fails : RefusesIfFails
refuses_if_fails case box others tree before number kind is =
    (λ refused. refused_tree case tree box others before number kind is refused, λ fails. tree_refused case tree box others before number kind is fails)

pub gives_as_tree : GivesAsTree
gives_as_tree case box tree after walked = (walk_holds case box tree after walked, walk_counts case box tree after walked, walk_due case box tree after walked)

pub leads_to_one : LeadsToOne
leads_to_one case node before one other fits x y =
    let t = taken_at case before x.box x.others node other x.first y in
    let fit = first_fits case x.box x.others before.due x.first fits in
    let given = gives_only case x.box node node.line x.given t.given fit x.right.right.asks x.right.gives t.right.gives in
    same_walk one other (due_only case x.box x.others node node.line one.due other.due x.right.right.asks x.due t.due) (x.nodes ∙ sym t.nodes) (x.counts ∙ sym t.counts)
    (x.bound ∙ ap (lower before.bound) given ∙ sym t.bound) (x.refused ∙ sym y.refused)

-- a walk from a box over the nodes of a tree is past it, and one that is past a tree that holds took its nodes
pub walk_past : (case : Case) (box : Box) (tree : Tree) (later : Walk) → Walked case (walk_at box) (nodes_of tree) later → later ≡ past_tree (walk_at box) [] tree later.bound
walk_past case box tree later walked =
    let past = walked_tree case tree box [] (walk_at box) later refl walked in
    subst (λ (b : Option ℕ). later ≡ past_tree (walk_at box) [] tree b) (sym (ap (λ (w : Walk). w.bound) past.2)) past.2

pub past_walked : (case : Case) (box : Box) (tree : Tree) (later : Walk) → Holds case box tree later.bound → later ≡ past_tree (walk_at box) [] tree later.bound
    → Walked case (walk_at box) (nodes_of tree) later
past_walked case box tree later holds is =
    subst (λ (w : Walk). Walked case (walk_at box) (nodes_of tree) w) (sym is) (tree_walked case tree box [] (walk_at box) later.bound refl holds)
