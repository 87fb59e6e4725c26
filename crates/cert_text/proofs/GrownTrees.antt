use Rattle.std.proofs.Common.{◌≡◌, ◌≢◌, ℕ, suc, Option, Some, None, List, [], ◌∷◌, ◌++◌, refl, sym, ap, subst, ◌∙◌, append_assoc, append-nil}
use Rattle.std.specs.Prelude.{option_to_list}
use Rattle.coord_model.specs.Tree.{Tree, Single, split, empty, void, bound, hair, open_leaf, nodes_of, shape}
use Rattle.coord_model.specs.declared.tree.Node.{Node}
use Rattle.coord_model.specs.declared.tree.NodeLine.TheVariants as Line
use Rattle.cert_text.specs.DueNodes.{Leads}
use Rattle.cert_text.specs.Growth.{nodes_grown, nodes_if, nodes_of_split, nodes_within}
use Rattle.cert_text.specs.declared.tree.GrowingTree.{GrowingTree}
use Rattle.cert_text.specs.declared.tree.OpenSplit.{OpenSplit}
use Rattle.cert_text.proofs.SameTrees.{same_front, same_tree, split_first}

-- one more split inside the others
pub within_more : (splits : List OpenSplit) (last : OpenSplit) → nodes_within (splits ++ last ∷ []) ≡ nodes_within splits ++ nodes_of_split last
within_more [] last = append-nil (nodes_of_split last)
within_more (s ∷ splits) last =
    ap (λ l. nodes_of_split s ++ l) (within_more splits last) ∙ sym (append_assoc (nodes_of_split s) (nodes_within splits) (nodes_of_split last))

-- a split more
pub split_put : (splits more : List OpenSplit) (tree : Option Node) (relay at : ℕ) → tree ≡ None → more ≡ splits ++ record { relay = relay; at = at; low = None } ∷ []
    → nodes_within more ++ nodes_if tree ≡ (nodes_within splits ++ nodes_if tree) ++ record { line = Line.Split relay at; weights = [] } ∷ []
split_put splits more tree relay at none put =
    let top : Single = record { line = Line.Split relay at; weights = [] } in
    ap (λ o. nodes_within more ++ nodes_if o) none ∙ append-nil (nodes_within more)
    ∙ ap nodes_within put ∙ within_more splits (record { relay = relay; at = at; low = None })
    ∙ ap (λ l. l ++ top ∷ []) (sym (append-nil (nodes_within splits)))
    ∙ ap (λ o. (nodes_within splits ++ nodes_if o) ++ top ∷ []) (sym none)

-- the last split is taken out
last_out : (before others : List OpenSplit) (last : Option OpenSplit) (s : OpenSplit) → before ≡ others ++ option_to_list last → last ≡ Some s
    → nodes_within before ≡ nodes_within others ++ nodes_of_split s
last_out before others last s parts is = ap nodes_within (parts ∙ ap (λ o. others ++ option_to_list o) is) ∙ within_more others s

-- and put back with its low half
pub low_put : (before others pushed : List OpenSplit) (last : Option OpenSplit) (s : OpenSplit) (node : Node) → before ≡ others ++ option_to_list last → last ≡ Some s → s.low ≡ None
    → pushed ≡ others ++ record { relay = s.relay; at = s.at; low = Some node } ∷ [] → nodes_within pushed ++ [] ≡ nodes_within before ++ nodes_of (shape node)
low_put before others pushed last s node parts is none put =
    let top : Single = record { line = Line.Split s.relay s.at; weights = [] } in
    append-nil (nodes_within pushed) ∙ ap nodes_within put ∙ within_more others (record { relay = s.relay; at = s.at; low = Some node })
    ∙ sym (append_assoc (nodes_within others) (top ∷ []) (nodes_of (shape node)))
    ∙ ap (λ o. (nodes_within others ++ (top ∷ nodes_if o)) ++ nodes_of (shape node)) (sym none)
    ∙ ap (λ l. l ++ nodes_of (shape node)) (sym (last_out before others last s parts is))

-- or is whole with its high half
pub joined : (before others : List OpenSplit) (last : Option OpenSplit) (s : OpenSplit) (low node whole : Node) → before ≡ others ++ option_to_list last → last ≡ Some s → s.low ≡ Some low
    → shape whole ≡ split s.relay s.at (shape low) (shape node) → nodes_within others ++ nodes_of (shape whole) ≡ nodes_within before ++ nodes_of (shape node)
joined before others last s low node whole parts is some of_whole =
    let top : Single = record { line = Line.Split s.relay s.at; weights = [] } in
    ap (λ t. nodes_within others ++ nodes_of t) of_whole
    ∙ sym (append_assoc (nodes_within others) (top ∷ nodes_of (shape low)) (nodes_of (shape node)))
    ∙ ap (λ o. (nodes_within others ++ (top ∷ nodes_if o)) ++ nodes_of (shape node)) (sym some)
    ∙ ap (λ l. l ++ nodes_of (shape node)) (sym (last_out before others last s parts is))

-- the nodes of open splits are not those of a tree, whatever follows them
not_below : (o : Option Node) (splits : List OpenSplit) (low high : Tree) (more : List Single) → ((t : Tree) (xs : List Single) → nodes_of t ++ xs ≢ nodes_within splits)
    → nodes_of low ++ (nodes_of high ++ more) ≡ nodes_if o ++ nodes_within splits → ⊥
not_below None splits low high more not rest = not low (nodes_of high ++ more) rest
not_below (Some node) splits low high more not rest =
    not high more (same_front low (shape node) (nodes_of high ++ more) (nodes_within splits) rest).1

pub not_whole : (splits : List OpenSplit) (t : Tree) (more : List Single) → nodes_of t ++ more ≢ nodes_within splits
not_whole [] (split relay at low high) more same = cc same
not_whole [] empty more same = cc same
not_whole [] (void weights) more same = cc same
not_whole [] (bound lambda weights) more same = cc same
not_whole [] (hair row) more same = cc same
not_whole [] (open_leaf lambda weights) more same = cc same
not_whole (s ∷ splits) t more same =
    let halves = split_first t s.relay s.at more (nodes_if s.low ++ nodes_within splits) same in
    not_below s.low splits halves.low halves.high more (λ u xs. not_whole splits u xs) halves.rest

-- the nodes of a tree lead past the due node at which it stands
pub leads_past : (t : Tree) (d : ℕ) (dues : List ℕ) (nodes : List Single) (later : List ℕ) → Leads (d ∷ dues) (nodes_of t ++ nodes) later → Leads dues nodes later
leads_past (split relay at low high) d dues nodes later leads =
    leads_past high (suc d) dues nodes later
    (leads_past low (suc d) (suc d ∷ dues) (nodes_of high ++ nodes) later
    (subst (λ l. Leads (suc d ∷ suc d ∷ dues) l later) (append_assoc (nodes_of low) (nodes_of high) nodes) leads.1))
leads_past empty d dues nodes later leads = leads.1
leads_past (void weights) d dues nodes later leads = leads.1
leads_past (bound lambda weights) d dues nodes later leads = leads.1
leads_past (hair row) d dues nodes later leads = leads.1
leads_past (open_leaf lambda weights) d dues nodes later leads = leads.1

-- the nodes of a whole tree are its own
whole_nodes : (tree : GrowingTree) (node : Node) → tree.tree ≡ Some node → nodes_grown tree ≡ nodes_of (shape node)
whole_nodes tree node is =
    let none : tree.splits.items ≡ [] = tree.whole node is in
    ap (λ l. nodes_within l ++ nodes_if tree.tree) none ∙ ap nodes_if is

-- while a node is due, the tree is not whole
pub still_grows : (tree : GrowingTree) (dues : List ℕ) → Leads (0 ∷ []) (nodes_grown tree) dues → dues ≢ [] → tree.tree ≡ None
still_grows tree dues leads some = by_tree tree.tree refl
  where
    by_tree : (o : Option Node) → tree.tree ≡ o → tree.tree ≡ None
    by_tree None is = is
    by_tree (Some node) is =
        let nodes = whole_nodes tree node is ∙ sym (append-nil (nodes_of (shape node))) in
        absurd (some (sym (leads_past (shape node) 0 [] [] dues (subst (λ l. Leads (0 ∷ []) l dues) nodes leads))))

-- a tree of which all nodes are read is whole
pub record Whole (tree : GrowingTree) (t : Tree) : Type 0 where
  pub node : Node
  pub is : tree.tree ≡ Some node
  pub same : shape node ≡ t

pub is_whole : (tree : GrowingTree) (t : Tree) → nodes_grown tree ≡ nodes_of t → Whole tree t
is_whole tree t nodes = by_tree tree.tree refl
  where
    by_tree : (o : Option Node) → tree.tree ≡ o → Whole tree t
    by_tree None is =
        let within : nodes_grown tree ≡ nodes_within tree.splits.items = ap (λ o. nodes_within tree.splits.items ++ nodes_if o) is ∙ append-nil (nodes_within tree.splits.items) in
        absurd (not_whole tree.splits.items t [] (append-nil (nodes_of t) ∙ sym nodes ∙ within))
    by_tree (Some node) is = record { node = node; is = is; same = same_tree (shape node) t (sym (whole_nodes tree node is) ∙ nodes) }
