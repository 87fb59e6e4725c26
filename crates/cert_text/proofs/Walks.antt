use Rattle.std.proofs.Common.{◌≡◌, ℕ, ◌+◌, List, [], ◌∷◌, ◌++◌, length, map, refl, sym, ap, subst, ◌∙◌, arith, append_assoc}
use Rattle.std.specs.List.{AllByRecursion}
use Rattle.std.specs.Prelude.{codes}
use Rattle.coord_model.specs.Tree.{Tree, Single, split, empty, void, bound, hair, open_leaf, root, nodes_of}
use Rattle.cert_text.specs.DueNodes.{Leads, MayStand, due_after}
use Rattle.cert_text.specs.Nodes.{IsNode, node_line}
use Rattle.cert_text.specs.Forests.{below, forest}
use Rattle.cert_text.proofs.Forests.{FitsDues}
use Rattle.cert_text.proofs.SameNodes.{same_node}

pub root_first : (t : Tree) (ts : List Tree) → forest (t ∷ ts) ≡ root t ∷ forest (below t ++ ts)
root_first (split relay at low high) ts = ap (λ l. root (split relay at low high) ∷ l) (append_assoc (nodes_of low) (nodes_of high) (forest ts))
root_first empty ts = refl
root_first (void weights) ts = refl
root_first (bound lambda weights) ts = refl
root_first (hair row) ts = refl
root_first (open_leaf lambda weights) ts = refl

all_front : (xs ys : List Single) → AllByRecursion IsNode (xs ++ ys) → AllByRecursion IsNode xs
all_front [] ys all = tt
all_front (x ∷ xs) ys all = (all.0, all_front xs ys all.1)

all_back : (xs ys : List Single) → AllByRecursion IsNode (xs ++ ys) → AllByRecursion IsNode ys
all_back [] ys all = all
all_back (x ∷ xs) ys all = all_back xs ys all.1

-- a tree that fits a due node: its root may stand there, and what is below it fits what is due next
pub record RootFits (d : ℕ) (dues : List ℕ) (t : Tree) (ts : List Tree) : Type 0 where
  pub is : IsNode (root t)
  pub may : MayStand (root t).line d
  pub rest : FitsDues (due_after (root t).line d dues) (below t ++ ts)

pub root_fits : (d : ℕ) (dues : List ℕ) (t : Tree) (ts : List Tree) → FitsDues (d ∷ dues) (t ∷ ts) → RootFits d dues t ts
root_fits d dues (split relay at low high) ts fits = record {
  is = fits.1.0;
  may = omega (arith, fits.0);
  rest = (omega (arith, fits.0), all_front (nodes_of low) (nodes_of high) fits.1.1, (omega (arith, fits.0), all_back (nodes_of low) (nodes_of high) fits.1.1, fits.2));
}
root_fits d dues empty ts fits = record { is = refl; may = tt; rest = fits.2 }
root_fits d dues (void weights) ts fits = record { is = fits.1.0; may = tt; rest = fits.2 }
root_fits d dues (bound lambda weights) ts fits = record { is = fits.1.0; may = tt; rest = fits.2 }
root_fits d dues (hair row) ts fits = record { is = fits.1.0; may = tt; rest = fits.2 }
root_fits d dues (open_leaf lambda weights) ts fits = record { is = fits.1.0; may = tt; rest = fits.2 }

-- once the nodes are read, the lines that are left are those of trees for what is due
pub record Ahead (trees : List Tree) (nodes : List Single) (later : List ℕ) (lines : List (List ℕ)) : Type 0 where
  pub left : List Tree
  pub fits : FitsDues later left
  pub parts : lines ≡ map node_line (forest left) ++ codes "end" ∷ []
  pub count : length (forest trees) ≡ length nodes + length (forest left)

pub walk : (dues : List ℕ) (nodes : List Single) (later : List ℕ) (trees : List Tree) (lines : List (List ℕ)) → FitsDues dues trees → AllByRecursion IsNode nodes → Leads dues nodes later
    → map node_line nodes ++ lines ≡ map node_line (forest trees) ++ codes "end" ∷ [] → Ahead trees nodes later lines
walk dues [] later trees lines fits each leads same = record { left = trees; fits = subst (λ from. FitsDues from trees) leads fits; parts = same; count = omega arith }
walk [] (node ∷ nodes) later trees lines fits each leads same = absurd leads
walk (d ∷ dues) (node ∷ nodes) later [] lines fits each leads same = absurd fits
walk (d ∷ dues) (node ∷ nodes) later (t ∷ ts) lines fits each leads same =
    let fit = root_fits d dues t ts fits in
    let both : node_line node ∷ (map node_line nodes ++ lines) ≡ node_line (root t) ∷ (map node_line (forest (below t ++ ts)) ++ codes "end" ∷ []) =
    same ∙ ap (λ ns. map node_line ns ++ codes "end" ∷ []) (root_first t ts) in
    let one : node ≡ root t = same_node node (root t) each.0 fit.is (cc both) in
    let rest : map node_line nodes ++ lines ≡ map node_line (forest (below t ++ ts)) ++ codes "end" ∷ [] = cc both in
    let ahead = walk (due_after node.line d dues) nodes later (below t ++ ts) lines (subst (λ n. FitsDues (due_after n.line d dues) (below t ++ ts)) (sym one) fit.rest) each.1 leads.1 rest in
    record { left = ahead.left; fits = ahead.fits; parts = ahead.parts; count = omega (arith, ap length (root_first t ts), ahead.count) }
