-- A tree's nodes taken one after another: what is refused, and what is due between its halves.
use Rattle.std.specs.Prelude.{IfErr, OnErr, OnOk, Result, Ok, Err}
use Rattle.std.proofs.Common.{◌≡◌, ℕ, suc, ◌+◌, ◌≤◌, inl, inr, List, [], ◌∷◌, length, arith, refl, ap, ◌∙◌}
use Rattle.std.proofs.lemmas.List.{length-append}
use Rattle.coord_model.specs.Tree.{Single, Tree, nodes_of, root, split}
use Rattle.margin_rows.specs.Box.{Box}
use Rattle.margin_rows.specs.Case.{Case}
use Rattle.cert_tree.specs.NodeFaults.{IsFirstWrong}
use Rattle.cert_tree.specs.Walks.{AtFirst, Refuses, Takes, Walk, Walked}
use Rattle.cert_tree.specs.declared.kind.NodeKind.{NodeKind}
use Rattle.cert_tree.proofs.WalkLaws.{refused_after, refused_in_front, walked_join}
use Rattle.cert_tree.proofs.WalkedTrees.{walked_tree}

-- the walk refuses one of the nodes, and has taken those before it
abbrev pub RefusesOne : Case → Walk → List Single → Walk → NodeKind → Type 0
RefusesOne case before nodes after kind = (number : ℕ) × Refuses case before nodes number kind × (suc after.nodes ≡ before.nodes + number)

walked_nodes : (case : Case) (nodes : List Single) (walk later : Walk) → Walked case walk nodes later → later.nodes ≡ walk.nodes + length nodes
walked_nodes case [] walk later all = ap (λ (w : Walk). w.nodes) all ∙ omega arith
walked_nodes case (node ∷ nodes) walk later all = let more = walked_nodes case nodes all.0 later all.2 in omega (arith, more, all.1.nodes)

pub first_refused : (case : Case) (before after : Walk) (node : Single) (nodes : List Single) (kind : NodeKind) → AtFirst (λ box. IsFirstWrong case box node kind) before.due → after.nodes ≡ before.nodes
    → RefusesOne case before (node ∷ nodes) after kind
first_refused case before after node nodes kind wrong kept = (1, inl (wrong, refl), omega (arith, kept))

pub one_refused : {X : Type 0} (case : Case) (before after : Walk) (node : Single) (r : Result X NodeKind) → IfErr r (λ kind. AtFirst (λ box. IsFirstWrong case box node kind) before.due) → OnErr r (after.nodes ≡ before.nodes)
    → IfErr r (λ kind. RefusesOne case before (node ∷ []) after kind)
one_refused case before after node (Ok x) wrong kept = tt
one_refused case before after node (Err kind) wrong kept = first_refused case before after node [] kind wrong kept

module _ (case : Case) (before mid : Walk) (relay at : ℕ) (below above : Tree) (takes : Takes case before (root (split relay at below above)) mid) where
  pub low_refused : (after : Walk) (kind : NodeKind) → RefusesOne case mid (nodes_of below) after kind → RefusesOne case before (nodes_of (split relay at below above)) after kind
  low_refused after kind at_low =
      (suc at_low.0, inr (mid, at_low.0, takes, refused_in_front case (nodes_of below) (nodes_of above) mid at_low.0 kind at_low.1, refl), omega (arith, at_low.2, takes.nodes))

  module _ (half : Walk) (low : Walked case mid (nodes_of below) half) where
    pub high_refused : {X : Type 0} (after : Walk) (r : Result X NodeKind) → IfErr r (λ kind. RefusesOne case half (nodes_of above) after kind)
        → IfErr r (λ kind. RefusesOne case before (nodes_of (split relay at below above)) after kind)
    high_refused after (Ok x) at_high = tt
    high_refused after (Err kind) at_high = (
      suc (length (nodes_of below) + at_high.0),
      inr (mid, length (nodes_of below) + at_high.0, takes, refused_after case (nodes_of below) (nodes_of above) mid half at_high.0 kind low at_high.1, refl),
      omega (arith, at_high.2, takes.nodes, walked_nodes case (nodes_of below) mid half low),
    )

    pub split_walked : {X : Type 0} (after : Walk) (r : Result X NodeKind) → OnOk r (Walked case half (nodes_of above) after) → OnOk r (Walked case before (nodes_of (split relay at below above)) after)
    split_walked after (Ok x) high = (mid, takes, walked_join case (nodes_of below) (nodes_of above) mid half after low high)
    split_walked after (Err kind) high = tt

    -- as many boxes are due between the halves as before
    pub due_between : length half.due ≡ length before.due
    due_between =
        let past = walked_tree case below takes.due.0 (takes.due.1 ∷ takes.others) mid half takes.due.3 low in
        let now : length half.due ≡ suc (length takes.others) = ap (λ (w : Walk). length w.due) past.2 ∙ omega arith in
        let was : length before.due ≡ suc (length takes.others) = ap (λ (xs : List Box). length xs) takes.first ∙ omega arith in
        omega (arith, now, was)

    pub nodes_between : before.nodes + length (nodes_of (split relay at below above)) ≤ 400001 → half.nodes + length (nodes_of above) ≤ 400001
    nodes_between few = omega (arith, few, takes.nodes, walked_nodes case (nodes_of below) mid half low, length-append (nodes_of below) (nodes_of above))
