use Rattle.std.proofs.Common.{◌≡◌, ℕ, suc, ◌+◌, ◌≤◌, List, [], ◌∷◌, ◌++◌, length, refl, sym, ap, subst, ◌∙◌, arith, append_assoc}
use Rattle.std.specs.List.{AllByRecursion}
use Rattle.std.specs.Prelude.{⊤}
use Rattle.coord_model.specs.Tree.{Tree, Single, split, empty, void, bound, hair, open_leaf, nodes_of, depth}
use Rattle.coord_model.specs.declared.tree.NodeLine.{NodeLine}
use Rattle.coord_model.specs.declared.tree.NodeLine.TheVariants as Line
use Rattle.coord_model.specs.declared.weights.Weight.{Weight}
use Rattle.cert_text.specs.DueNodes.{Leads, MayStand, due_after}
use Rattle.cert_text.specs.Forests.{forest}
use Rattle.cert_text.specs.Nodes.{IsNode}
use Rattle.cert_text.proofs.PairWords.{all_append}

-- a tree for each due node, within the limits
abbrev pub FitsDues : List ℕ → List Tree → Type 0
FitsDues [] [] = ⊤
FitsDues [] (t ∷ ts) = ⊥
FitsDues (d ∷ dues) [] = ⊥
FitsDues (d ∷ dues) (t ∷ ts) = (d + depth t ≤ 3072) × AllByRecursion IsNode (nodes_of t) × FitsDues dues ts

-- each due node can be done by an empty one
abbrev pub empties : List ℕ → List Tree
empties [] = []
empties (d ∷ dues) = empty ∷ empties dues

-- no due node has more than 3,072 splits above it
abbrev pub AreShallow : List ℕ → Type 0
AreShallow [] = ⊤
AreShallow (d ∷ dues) = (d ≤ 3072) × AreShallow dues

pub shallow_after : (node : NodeLine) (d : ℕ) (dues : List ℕ) → MayStand node d → AreShallow dues → AreShallow (due_after node d dues)
shallow_after (Line.Split relay at) d dues may shallow = (may, (may, shallow))
shallow_after Line.Empty d dues may shallow = shallow
shallow_after Line.Void d dues may shallow = shallow
shallow_after (Line.Bound lambda) d dues may shallow = shallow
shallow_after (Line.Hair row) d dues may shallow = shallow
shallow_after (Line.OpenLeaf lambda) d dues may shallow = shallow

pub empties_fit : (dues : List ℕ) → AreShallow dues → FitsDues dues (empties dues)
empties_fit [] shallow = tt
empties_fit (d ∷ dues) shallow = (omega (arith, shallow.0), (refl, tt), empties_fit dues shallow.1)

-- trees that begin with these nodes
pub record Grown (dues : List ℕ) (nodes : List Single) (later : List ℕ) : Type 0 where
  pub trees : List Tree
  pub fits : FitsDues dues trees
  pub parts : forest trees ≡ nodes ++ forest (empties later)

-- one node more at the front
grow_at : (line : NodeLine) (weights : List Weight) (d : ℕ) (dues : List ℕ) (nodes : List Single) (later : List ℕ) → MayStand line d → d ≤ 3072
    → IsNode (record { line = line; weights = weights }) → Grown (due_after line d dues) nodes later → Grown (d ∷ dues) (record { line = line; weights = weights } ∷ nodes) later
grow_at (Line.Split relay at) weights d dues nodes later may deep is grown = two grown.trees grown.fits grown.parts
  where
    two : (trees : List Tree) → FitsDues (suc d ∷ suc d ∷ dues) trees → forest trees ≡ nodes ++ forest (empties later)
        → Grown (d ∷ dues) (record { line = Line.Split relay at; weights = weights } ∷ nodes) later
    two [] fits parts = absurd fits
    two (low ∷ []) fits parts = absurd fits.2
    two (low ∷ high ∷ trees) fits parts = record {
      trees = split relay at low high ∷ trees;
      fits = (omega (arith, fits.0, fits.2.0), ((is.0, is.1, refl), all_append IsNode (nodes_of low) (nodes_of high) fits.1 fits.2.1), fits.2.2);
      parts = ap (λ ws. record { line = Line.Split relay at; weights = ws } ∷ ((nodes_of low ++ nodes_of high) ++ forest trees)) (sym is.2)
          ∙ ap (λ l. record { line = Line.Split relay at; weights = weights } ∷ l) (append_assoc (nodes_of low) (nodes_of high) (forest trees) ∙ parts);
    }
grow_at Line.Empty weights d dues nodes later may deep is grown = record {
  trees = empty ∷ grown.trees;
  fits = (omega (arith, deep), (refl, tt), grown.fits);
  parts = ap (λ ws. record { line = Line.Empty; weights = ws } ∷ forest grown.trees) (sym is) ∙ ap (λ l. record { line = Line.Empty; weights = weights } ∷ l) grown.parts;
}
grow_at Line.Void weights d dues nodes later may deep is grown = record {
  trees = void weights ∷ grown.trees;
  fits = (omega (arith, deep), (is, tt), grown.fits);
  parts = ap (λ l. record { line = Line.Void; weights = weights } ∷ l) grown.parts;
}
grow_at (Line.Bound lambda) weights d dues nodes later may deep is grown = record {
  trees = bound lambda weights ∷ grown.trees;
  fits = (omega (arith, deep), (is, tt), grown.fits);
  parts = ap (λ l. record { line = Line.Bound lambda; weights = weights } ∷ l) grown.parts;
}
grow_at (Line.Hair row) weights d dues nodes later may deep is grown = record {
  trees = hair row ∷ grown.trees;
  fits = (omega (arith, deep), ((is.0, refl), tt), grown.fits);
  parts = ap (λ ws. record { line = Line.Hair row; weights = ws } ∷ forest grown.trees) (sym is.1) ∙ ap (λ l. record { line = Line.Hair row; weights = weights } ∷ l) grown.parts;
}
grow_at (Line.OpenLeaf lambda) weights d dues nodes later may deep is grown = record {
  trees = open_leaf lambda weights ∷ grown.trees;
  fits = (omega (arith, deep), (is, tt), grown.fits);
  parts = ap (λ l. record { line = Line.OpenLeaf lambda; weights = weights } ∷ l) grown.parts;
}

-- nodes that lead from due nodes to others begin trees for them
pub grow : (dues : List ℕ) (nodes : List Single) (later : List ℕ) → AreShallow dues → AllByRecursion IsNode nodes → Leads dues nodes later → Grown dues nodes later
grow dues [] later shallow each leads = record { trees = empties dues; fits = empties_fit dues shallow; parts = ap (λ l. forest (empties l)) leads }
grow [] (node ∷ nodes) later shallow each leads = absurd leads
grow (d ∷ dues) (node ∷ nodes) later shallow each leads =
    grow_at node.line node.weights d dues nodes later leads.0 shallow.0 each.0
    (grow (due_after node.line d dues) nodes later (shallow_after node.line d dues leads.0 shallow.1) each.1 leads.1)

-- the nodes of empty trees
pub empties_count : (dues : List ℕ) → length (forest (empties dues)) ≡ length dues
empties_count [] = refl
empties_count (d ∷ dues) = omega (arith, empties_count dues)

-- one node more at the end
pub leads_more : (dues : List ℕ) (nodes : List Single) (d : ℕ) (others : List ℕ) (node : Single) → Leads dues nodes (d ∷ others) → MayStand node.line d
    → Leads dues (nodes ++ node ∷ []) (due_after node.line d others)
leads_more dues [] d others node leads may = subst (λ from. Leads from (node ∷ []) (due_after node.line d others)) (sym leads) (may, refl)
leads_more [] (n ∷ nodes) d others node leads may = absurd leads
leads_more (e ∷ dues) (n ∷ nodes) d others node leads may = (leads.0, leads_more (due_after n.line e dues) nodes d others node leads.1 may)
