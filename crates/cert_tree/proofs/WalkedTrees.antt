-- The nodes of a tree, taken at the first due box: the walk passes them if the tree holds there, and else refuses the
-- first that fails.
use Rattle.std.specs.Prelude.{Bool, Option, Some}
use Rattle.std.proofs.Common.{◌≡◌, ℕ, suc, ◌+◌, ◌≤◌, inl, inr, List, [], ◌∷◌, length, arith, refl, sym, ◌∙◌, ap, subst}
use Rattle.std.proofs.lemmas.List.{length-append}
use Rattle.coord_model.specs.Tree.{Single, Tree, split, empty, void, bound, hair, open_leaf, nodes_of, root}
use Rattle.coord_model.specs.declared.weights.Weight.{Weight}
use Rattle.margin_rows.specs.Box.{Box}
use Rattle.margin_rows.specs.Case.{Case}
use Rattle.cert_tree.specs.Counting.{both, counts_by, no_counts}
use Rattle.cert_tree.specs.Endings.{counts_of}
use Rattle.cert_tree.specs.Holding.{Fails, Holds, at_bound, at_empty, at_hair, at_open_leaf, at_split, at_void, below_high, below_low, here, lower}
use Rattle.cert_tree.specs.Judgement.{IsRightWith}
use Rattle.cert_tree.specs.NodeFaults.{IsFirstWrong}
use Rattle.cert_tree.specs.TreeWalks.{IsPast, past_tree, walk_at}
use Rattle.cert_tree.specs.Walks.{AreDueAfter, AtFirst, Refuses, Takes, Walk, Walked}
use Rattle.cert_tree.specs.declared.counts.Counts.{Counts}
use Rattle.cert_tree.specs.declared.kind.NodeKind.{NodeKind}
use Rattle.cert_tree.proofs.WalkLaws.{counts_parts, lower_none, lower_parts, refused_split, taken_at, walked_split}

-- a leaf that is right holds
pub empty_holds : (case : Case) (box : Box) (given : Option ℕ) → IsRightWith case box (root empty) given → Holds case box empty given
empty_holds case box given is = subst (λ (g : Option ℕ). Holds case box empty g) (sym is.gives) (at_empty is.right)

pub void_holds : (case : Case) (box : Box) (weights : List Weight) (given : Option ℕ) → IsRightWith case box (root (void weights)) given → Holds case box (void weights) given
void_holds case box weights given is = subst (λ (g : Option ℕ). Holds case box (void weights) g) (sym is.gives) (at_void is.right)

pub bound_holds : (case : Case) (box : Box) (lambda : ℕ) (weights : List Weight) (given : Option ℕ) → IsRightWith case box (root (bound lambda weights)) given → Holds case box (bound lambda weights) given
bound_holds case box lambda weights given is =
    let g = is.gives in
    subst (λ (o : Option ℕ). Holds case box (bound lambda weights) o) (sym (g.4 ∙ ap Some g.3.is)) (at_bound is.right g.2 g.3.dual)

pub hair_holds : (case : Case) (box : Box) (row : ℕ) (given : Option ℕ) → IsRightWith case box (root (hair row)) given → Holds case box (hair row) given
hair_holds case box row given is =
    let g = is.gives in
    subst (λ (o : Option ℕ). Holds case box (hair row) o) (sym g.4) (at_hair is.right g.2 g.3)

pub open_holds : (case : Case) (box : Box) (lambda : ℕ) (weights : List Weight) (given : Option ℕ) → IsRightWith case box (root (open_leaf lambda weights)) given → Holds case box (open_leaf lambda weights) given
open_holds case box lambda weights given is =
    let g = is.gives in
    subst (λ (o : Option ℕ). Holds case box (open_leaf lambda weights) o) (sym (g.2 ∙ ap Some g.1.is)) (at_open_leaf is.right g.1.dual)

-- a walk by its parts
pub same_walk : (a b : Walk) → a.due ≡ b.due → a.nodes ≡ b.nodes → a.counts ≡ b.counts → a.bound ≡ b.bound → a.refused ≡ b.refused → a ≡ b
same_walk a b p q r s t =
    ap (λ (xs : List Box). record { due = xs; nodes = a.nodes; counts = a.counts; bound = a.bound; refused = a.refused }) p
    ∙ ap (λ (n : ℕ). record { due = b.due; nodes = n; counts = a.counts; bound = a.bound; refused = a.refused }) q
    ∙ ap (λ (c : Counts). record { due = b.due; nodes = b.nodes; counts = c; bound = a.bound; refused = a.refused }) r
    ∙ ap (λ (o : Option ℕ). record { due = b.due; nodes = b.nodes; counts = b.counts; bound = o; refused = a.refused }) s
    ∙ ap (λ (y : Bool). record { due = b.due; nodes = b.nodes; counts = b.counts; bound = b.bound; refused = y }) t

-- past a leaf
leaf_past : (case : Case) (before : Walk) (box : Box) (others : List Box) (leaf : Tree) (next later : Walk) → before.due ≡ box ∷ others → length (nodes_of leaf) ≡ 1
    → counts_by (root leaf).line ≡ counts_of leaf → ((later : List Box) → AreDueAfter case box others (root leaf).line later → later ≡ others)
    → ((given : Option ℕ) → IsRightWith case box (root leaf) given → Holds case box leaf given) → Takes case before (root leaf) next → later ≡ next → IsPast case before box others leaf later
leaf_past case before box others leaf next later is one counts due holds takes last =
    let t = taken_at case before box others (root leaf) next is takes in (
      t.given,
      holds t.given t.right,
      last
          ∙ same_walk next (past_tree before others leaf t.given) (due next.due t.due) (omega (arith, t.nodes, one)) (t.counts ∙ ap (both before.counts) counts) t.bound takes.refused,
    )

-- past both halves of a split
pub split_past : (case : Case) (before mid half after : Walk) (relay at : ℕ) (below above : Tree) (low high : Box) (others : List Box) (a b : Option ℕ)
    → mid.nodes ≡ suc before.nodes → mid.counts ≡ both before.counts (counts_by (root (split relay at below above)).line) → mid.bound ≡ before.bound
    → half ≡ past_tree mid (high ∷ others) below a → after ≡ past_tree half others above b → after ≡ past_tree before others (split relay at below above) (lower a b)
split_past case before mid half after relay at below above low high others a b nodes counts low_is first second =
    second ∙ ap (λ (w : Walk). past_tree w others above b) first
    ∙ same_walk (past_tree (past_tree mid (high ∷ others) below a) others above b) (past_tree before others (split relay at below above) (lower a b)) refl
    (omega (arith, nodes, length-append (nodes_of below) (nodes_of above))) (counts_parts before.counts (counts_of below) (counts_of above) relay at below above refl refl mid.counts counts)
    (ap (λ (o : Option ℕ). lower (lower o a) b) low_is ∙ lower_parts before.bound a b) refl

-- the walk takes the nodes of a tree only if it holds at the first due box, and is past it then
pub walked_tree : (case : Case) (tree : Tree) (box : Box) (others : List Box) (before after : Walk) → before.due ≡ box ∷ others → Walked case before (nodes_of tree) after → IsPast case before box others tree after
walked_tree case (split relay at below above) box others before after is walked =
    let t = taken_at case before box others (root (split relay at below above)) walked.0 is walked.1 in
    let low = t.due.0 in
    let high = t.due.1 in
    let parts = walked_split case (nodes_of below) (nodes_of above) walked.0 after walked.2 in
    let first = walked_tree case below low (high ∷ others) walked.0 parts.0 t.due.3 parts.1 in
    let second = walked_tree case above high others parts.0 after (ap (λ (w : Walk). w.due) first.2) parts.2 in (
      lower first.0 second.0,
      at_split t.right.right t.due.2 first.1 second.1,
      split_past case before walked.0 parts.0 after relay at below above low high others first.0 second.0 t.nodes t.counts
          (t.bound ∙ ap (lower before.bound) t.right.gives ∙ lower_none before.bound) first.2 second.2,
    )
walked_tree case empty box others before after is walked =
    leaf_past case before box others empty walked.0 after is (omega arith) refl (λ later same. same) (empty_holds case box) walked.1 walked.2
walked_tree case (void weights) box others before after is walked =
    leaf_past case before box others (void weights) walked.0 after is (omega arith) refl (λ later same. same) (void_holds case box weights) walked.1 walked.2
walked_tree case (bound lambda weights) box others before after is walked =
    leaf_past case before box others (bound lambda weights) walked.0 after is (omega arith) refl (λ later same. same) (bound_holds case box lambda weights) walked.1 walked.2
walked_tree case (hair row) box others before after is walked =
    leaf_past case before box others (hair row) walked.0 after is (omega arith) refl (λ later same. same) (hair_holds case box row) walked.1 walked.2
walked_tree case (open_leaf lambda weights) box others before after is walked =
    leaf_past case before box others (open_leaf lambda weights) walked.0 after is (omega arith) refl (λ later same. same) (open_holds case box lambda weights) walked.1 walked.2

at_first : (P : Box → Type 0) (due : List Box) (box : Box) (others : List Box) → due ≡ box ∷ others → AtFirst P due → P box
at_first P due box others is at = subst (λ (xs : List Box). AtFirst P xs) is at

leaf_fails : (case : Case) (leaf : Tree) (box : Box) (others : List Box) (before : Walk) (number : ℕ) (kind : NodeKind) → before.due ≡ box ∷ others → Refuses case before (root leaf ∷ []) number kind → Fails case box leaf number kind
leaf_fails case leaf box others before number kind is (inl at) =
    subst (λ (n : ℕ). Fails case box leaf n kind) (sym at.1) (here (at_first (λ b. IsFirstWrong case b (root leaf) kind) before.due box others is at.0))
leaf_fails case leaf box others before number kind is (inr at) = absurd at.3

-- the walk refuses a node of a tree only if it is the first that fails at the first due box
pub refused_tree : (case : Case) (tree : Tree) (box : Box) (others : List Box) (before : Walk) (number : ℕ) (kind : NodeKind) → before.due ≡ box ∷ others
    → Refuses case before (nodes_of tree) number kind → Fails case box tree number kind
refused_tree case (split relay at below above) box others before number kind is (inl wrong) =
    subst (λ (n : ℕ). Fails case box (split relay at below above) n kind) (sym wrong.1) (here (at_first (λ b. IsFirstWrong case b (root (split relay at below above)) kind) before.due box others is wrong.0))
refused_tree case (split relay at below above) box others before number kind is (inr after) =
    let t = taken_at case before box others (root (split relay at below above)) after.0 is after.2 in
    let low = t.due.0 in
    let high = t.due.1 in
    subst (λ (n : ℕ). Fails case box (split relay at below above) n kind) (sym after.4)
    (elim (refused_split case (nodes_of below) (nodes_of above) after.0 after.1 kind after.3) as (λ _. Fails case box (split relay at below above) (suc after.1) kind) [
      | inl front ↦ below_low t.right.right t.due.2 (refused_tree case below low (high ∷ others) after.0 after.1 kind t.due.3 front)
      | inr behind ↦
          let first = walked_tree case below low (high ∷ others) after.0 behind.0 t.due.3 behind.2 in
          let e : suc (length (nodes_of below) + behind.1) ≡ suc after.1 = omega (arith, behind.4) in
          subst (λ (n : ℕ). Fails case box (split relay at below above) n kind) e
          (below_high t.right.right t.due.2 first.1 (refused_tree case above high others behind.0 behind.1 kind (ap (λ (w : Walk). w.due) first.2) behind.3))
    ])
refused_tree case empty box others before number kind is at = leaf_fails case empty box others before number kind is at
refused_tree case (void weights) box others before number kind is at = leaf_fails case (void weights) box others before number kind is at
refused_tree case (bound lambda weights) box others before number kind is at = leaf_fails case (bound lambda weights) box others before number kind is at
refused_tree case (hair row) box others before number kind is at = leaf_fails case (hair row) box others before number kind is at
refused_tree case (open_leaf lambda weights) box others before number kind is at = leaf_fails case (open_leaf lambda weights) box others before number kind is at

-- a walk that began at a box and took the nodes of a tree: the tree holds there, its bound and what it comes to are those
-- of the walk, and no box is due
pub walk_holds : (case : Case) (box : Box) (tree : Tree) (later : Walk) → Walked case (walk_at box) (nodes_of tree) later → Holds case box tree later.bound
walk_holds case box tree later walked =
    let past = walked_tree case tree box [] (walk_at box) later refl walked in
    subst (λ (b : Option ℕ). Holds case box tree b) (sym (ap (λ (w : Walk). w.bound) past.2)) past.1

pub walk_counts : (case : Case) (box : Box) (tree : Tree) (later : Walk) → Walked case (walk_at box) (nodes_of tree) later → later.counts ≡ counts_of tree
walk_counts case box tree later walked = ap (λ (w : Walk). w.counts) (walked_tree case tree box [] (walk_at box) later refl walked).2 ∙ no_more (counts_of tree)
  where
    no_more : (c : Counts) → both no_counts c ≡ c
    no_more c = let e : 0 + c.boxes ≡ c.boxes = omega arith in ap (λ (n : ℕ). record { boxes = n; open_leaf = c.open_leaf; hair = c.hair; no_settings = c.no_settings }) e

pub walk_due : (case : Case) (box : Box) (tree : Tree) (later : Walk) → Walked case (walk_at box) (nodes_of tree) later → later.due ≡ []
walk_due case box tree later walked = ap (λ (w : Walk). w.due) (walked_tree case tree box [] (walk_at box) later refl walked).2

-- and one that was refused at a node: the tree fails there
pub walk_fails : (case : Case) (box : Box) (tree : Tree) (number : ℕ) (kind : NodeKind) → Refuses case (walk_at box) (nodes_of tree) number kind → Fails case box tree number kind
walk_fails case box tree number kind at = refused_tree case tree box [] (walk_at box) number kind refl at

-- what is refused is one of the nodes
pub refused_within : (case : Case) (nodes : List Single) (walk : Walk) (number : ℕ) (kind : NodeKind) → Refuses case walk nodes number kind → number ≤ length nodes
refused_within case [] walk number kind gone = absurd gone
refused_within case (node ∷ nodes) walk number kind (inl at) = omega (arith, at.1)
refused_within case (node ∷ nodes) walk number kind (inr at) = omega (arith, at.4, refused_within case nodes at.0 at.1 kind at.3)
