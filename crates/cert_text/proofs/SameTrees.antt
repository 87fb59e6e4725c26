use Rattle.std.proofs.Common.{◌≡◌, ℕ, List, [], ◌∷◌, ◌++◌, refl, sym, ap, ◌∙◌, arith, append_assoc, append-nil}
use Rattle.coord_model.specs.Tree.{Tree, Single, split, empty, void, bound, hair, open_leaf, nodes_of}
use Rattle.coord_model.specs.declared.tree.NodeLine.{NodeLine}
use Rattle.coord_model.specs.declared.tree.NodeLine.TheVariants as Line
use Rattle.coord_model.specs.declared.weights.Weight.{Weight}

-- the kind of the first node, as a number
abbrev kind_of : NodeLine → ℕ
kind_of (Line.Split relay at) = 0
kind_of Line.Empty = 1
kind_of Line.Void = 2
kind_of (Line.Bound lambda) = 3
kind_of (Line.Hair row) = 4
kind_of (Line.OpenLeaf lambda) = 5

abbrev first_kind : List Single → ℕ
first_kind [] = 6
first_kind (n ∷ ns) = kind_of n.line

abbrev line_of : List Single → NodeLine
line_of [] = Line.Empty
line_of (n ∷ ns) = n.line

abbrev weights_of_first : List Single → List Weight
weights_of_first [] = []
weights_of_first (n ∷ ns) = n.weights

-- nodes that begin with those of a tree begin with those of one tree
pub same_front : (t u : Tree) (xs ys : List Single) → nodes_of t ++ xs ≡ nodes_of u ++ ys → (t ≡ u) × (xs ≡ ys)
same_front (split relay at low high) (split relay2 at2 low2 high2) xs ys same =
    let rest : (nodes_of low ++ nodes_of high) ++ xs ≡ (nodes_of low2 ++ nodes_of high2) ++ ys = cc same in
    let of_low = same_front low low2 (nodes_of high ++ xs) (nodes_of high2 ++ ys) (sym (append_assoc (nodes_of low) (nodes_of high) xs) ∙ rest ∙ append_assoc (nodes_of low2) (nodes_of high2) ys) in
    let of_high = same_front high high2 xs ys of_low.1 in
    let lines : Line.Split relay at ≡ Line.Split relay2 at2 = ap line_of same in
    let relays : relay ≡ relay2 = cc lines in
    let steps : at ≡ at2 = cc lines in
    (ap (λ r. split r at low high) relays ∙ ap (λ a. split relay2 a low high) steps ∙ ap (λ t. split relay2 at2 t high) of_low.0 ∙ ap (λ t. split relay2 at2 low2 t) of_high.0, of_high.1)
same_front (split relay at low high) empty xs ys same = let h : 0 ≡ 1 = ap first_kind same in absurd (omega (arith, h))
same_front (split relay at low high) (void weights2) xs ys same = let h : 0 ≡ 2 = ap first_kind same in absurd (omega (arith, h))
same_front (split relay at low high) (bound lambda2 weights2) xs ys same = let h : 0 ≡ 3 = ap first_kind same in absurd (omega (arith, h))
same_front (split relay at low high) (hair row2) xs ys same = let h : 0 ≡ 4 = ap first_kind same in absurd (omega (arith, h))
same_front (split relay at low high) (open_leaf lambda2 weights2) xs ys same = let h : 0 ≡ 5 = ap first_kind same in absurd (omega (arith, h))
same_front empty (split relay2 at2 low2 high2) xs ys same = let h : 1 ≡ 0 = ap first_kind same in absurd (omega (arith, h))
same_front empty empty xs ys same = (refl, cc same)
same_front empty (void weights2) xs ys same = let h : 1 ≡ 2 = ap first_kind same in absurd (omega (arith, h))
same_front empty (bound lambda2 weights2) xs ys same = let h : 1 ≡ 3 = ap first_kind same in absurd (omega (arith, h))
same_front empty (hair row2) xs ys same = let h : 1 ≡ 4 = ap first_kind same in absurd (omega (arith, h))
same_front empty (open_leaf lambda2 weights2) xs ys same = let h : 1 ≡ 5 = ap first_kind same in absurd (omega (arith, h))
same_front (void weights) (split relay2 at2 low2 high2) xs ys same = let h : 2 ≡ 0 = ap first_kind same in absurd (omega (arith, h))
same_front (void weights) empty xs ys same = let h : 2 ≡ 1 = ap first_kind same in absurd (omega (arith, h))
same_front (void weights) (void weights2) xs ys same = (ap void (ap weights_of_first same), cc same)
same_front (void weights) (bound lambda2 weights2) xs ys same = let h : 2 ≡ 3 = ap first_kind same in absurd (omega (arith, h))
same_front (void weights) (hair row2) xs ys same = let h : 2 ≡ 4 = ap first_kind same in absurd (omega (arith, h))
same_front (void weights) (open_leaf lambda2 weights2) xs ys same = let h : 2 ≡ 5 = ap first_kind same in absurd (omega (arith, h))
same_front (bound lambda weights) (split relay2 at2 low2 high2) xs ys same = let h : 3 ≡ 0 = ap first_kind same in absurd (omega (arith, h))
same_front (bound lambda weights) empty xs ys same = let h : 3 ≡ 1 = ap first_kind same in absurd (omega (arith, h))
same_front (bound lambda weights) (void weights2) xs ys same = let h : 3 ≡ 2 = ap first_kind same in absurd (omega (arith, h))
same_front (bound lambda weights) (bound lambda2 weights2) xs ys same =
    let lines : Line.Bound lambda ≡ Line.Bound lambda2 = ap line_of same in
    (ap (λ n. bound n weights) (cc lines) ∙ ap (λ ws. bound lambda2 ws) (ap weights_of_first same), cc same)
same_front (bound lambda weights) (hair row2) xs ys same = let h : 3 ≡ 4 = ap first_kind same in absurd (omega (arith, h))
same_front (bound lambda weights) (open_leaf lambda2 weights2) xs ys same = let h : 3 ≡ 5 = ap first_kind same in absurd (omega (arith, h))
same_front (hair row) (split relay2 at2 low2 high2) xs ys same = let h : 4 ≡ 0 = ap first_kind same in absurd (omega (arith, h))
same_front (hair row) empty xs ys same = let h : 4 ≡ 1 = ap first_kind same in absurd (omega (arith, h))
same_front (hair row) (void weights2) xs ys same = let h : 4 ≡ 2 = ap first_kind same in absurd (omega (arith, h))
same_front (hair row) (bound lambda2 weights2) xs ys same = let h : 4 ≡ 3 = ap first_kind same in absurd (omega (arith, h))
same_front (hair row) (hair row2) xs ys same = let lines : Line.Hair row ≡ Line.Hair row2 = ap line_of same in (ap hair (cc lines), cc same)
same_front (hair row) (open_leaf lambda2 weights2) xs ys same = let h : 4 ≡ 5 = ap first_kind same in absurd (omega (arith, h))
same_front (open_leaf lambda weights) (split relay2 at2 low2 high2) xs ys same = let h : 5 ≡ 0 = ap first_kind same in absurd (omega (arith, h))
same_front (open_leaf lambda weights) empty xs ys same = let h : 5 ≡ 1 = ap first_kind same in absurd (omega (arith, h))
same_front (open_leaf lambda weights) (void weights2) xs ys same = let h : 5 ≡ 2 = ap first_kind same in absurd (omega (arith, h))
same_front (open_leaf lambda weights) (bound lambda2 weights2) xs ys same = let h : 5 ≡ 3 = ap first_kind same in absurd (omega (arith, h))
same_front (open_leaf lambda weights) (hair row2) xs ys same = let h : 5 ≡ 4 = ap first_kind same in absurd (omega (arith, h))
same_front (open_leaf lambda weights) (open_leaf lambda2 weights2) xs ys same =
    let lines : Line.OpenLeaf lambda ≡ Line.OpenLeaf lambda2 = ap line_of same in
    (ap (λ n. open_leaf n weights) (cc lines) ∙ ap (λ ws. open_leaf lambda2 ws) (ap weights_of_first same), cc same)

-- a tree has nodes of its own
pub same_tree : (t u : Tree) → nodes_of t ≡ nodes_of u → t ≡ u
same_tree t u same = (same_front t u [] [] (append-nil (nodes_of t) ∙ same ∙ sym (append-nil (nodes_of u)))).0

-- nodes that begin with a split are those of its halves
pub record Halves (t : Tree) (xs ys : List Single) : Type 0 where
  pub low : Tree
  pub high : Tree
  pub rest : nodes_of low ++ (nodes_of high ++ xs) ≡ ys

pub split_first : (t : Tree) (relay at : ℕ) (xs ys : List Single) → nodes_of t ++ xs ≡ record { line = Line.Split relay at; weights = [] } ∷ ys → Halves t xs ys
split_first (split relay2 at2 low high) relay at xs ys same =
    let rest : (nodes_of low ++ nodes_of high) ++ xs ≡ ys = cc same in
    record { low = low; high = high; rest = sym (append_assoc (nodes_of low) (nodes_of high) xs) ∙ rest }
split_first empty relay at xs ys same = let h : 1 ≡ 0 = ap first_kind same in absurd (omega (arith, h))
split_first (void weights) relay at xs ys same = let h : 2 ≡ 0 = ap first_kind same in absurd (omega (arith, h))
split_first (bound lambda weights) relay at xs ys same = let h : 3 ≡ 0 = ap first_kind same in absurd (omega (arith, h))
split_first (hair row) relay at xs ys same = let h : 4 ≡ 0 = ap first_kind same in absurd (omega (arith, h))
split_first (open_leaf lambda weights) relay at xs ys same = let h : 5 ≡ 0 = ap first_kind same in absurd (omega (arith, h))
