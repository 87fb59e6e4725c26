-- The nodes of a tree, taken at the first due box: the walk passes them if the tree holds there, and else refuses the
-- first that fails.
use Rattle.std.specs.Prelude.{Option, None, Some, Bool, true, false}
use Rattle.std.proofs.Common.{◌≡◌, ℕ, suc, ◌+◌, ◌&&◌, ◌||◌, ◌⊎◌, inl, inr, List, [], ◌∷◌, ◌++◌, length, min, arith, refl, sym, ◌∙◌, ap, subst}
use Rattle.coord_model.specs.Tree.{Single, Tree, split, root}
use Rattle.margin_rows.specs.Box.{Box}
use Rattle.margin_rows.specs.Case.{Case}
use Rattle.cert_tree.specs.Counting.{both, counts_by}
use Rattle.cert_tree.specs.Endings.{counts_of, has_hair, has_no_settings, has_open_leaf}
use Rattle.cert_tree.specs.Holding.{lower}
use Rattle.cert_tree.specs.Judgement.{IsRightWith}
use Rattle.cert_tree.specs.Walks.{AreDueAfter, Refuses, Takes, Walk, Walked}
use Rattle.cert_tree.specs.declared.counts.Counts.{Counts}
use Rattle.cert_tree.specs.declared.kind.NodeKind.{NodeKind}

-- walks in parts
pub walked_join : (case : Case) (xs ys : List Single) (walk mid later : Walk) → Walked case walk xs mid → Walked case mid ys later → Walked case walk (xs ++ ys) later
walked_join case [] ys walk mid later first more = subst (λ (w : Walk). Walked case w ys later) first more
walked_join case (x ∷ xs) ys walk mid later first more = (first.0, first.1, walked_join case xs ys first.0 mid later first.2 more)

pub walked_split : (case : Case) (xs ys : List Single) (walk later : Walk) → Walked case walk (xs ++ ys) later → (mid : Walk) × Walked case walk xs mid × Walked case mid ys later
walked_split case [] ys walk later all = (walk, refl, all)
walked_split case (x ∷ xs) ys walk later all = let rest = walked_split case xs ys all.0 later all.2 in (rest.0, (all.0, all.1, rest.1), rest.2)

pub walked_one : (case : Case) (walk : Walk) (node : Single) (later : Walk) → Takes case walk node later → Walked case walk (node ∷ []) later
walked_one case walk node later takes = (later, takes, refl)

-- what is refused in a front of nodes is refused in all, and so is what is refused after a front
pub refused_in_front : (case : Case) (xs ys : List Single) (walk : Walk) (number : ℕ) (kind : NodeKind) → Refuses case walk xs number kind → Refuses case walk (xs ++ ys) number kind
refused_in_front case [] ys walk number kind gone = absurd gone
refused_in_front case (x ∷ xs) ys walk number kind (inl at) = inl at
refused_in_front case (x ∷ xs) ys walk number kind (inr at) = inr (at.0, at.1, at.2, refused_in_front case xs ys at.0 at.1 kind at.3, at.4)

pub refused_after : (case : Case) (xs ys : List Single) (walk mid : Walk) (number : ℕ) (kind : NodeKind) → Walked case walk xs mid → Refuses case mid ys number kind
    → Refuses case walk (xs ++ ys) (length xs + number) kind
refused_after case [] ys walk mid number kind first at =
    let same : number ≡ 0 + number = omega arith in
    subst (λ (n : ℕ). Refuses case walk ys n kind) same (subst (λ (w : Walk). Refuses case w ys number kind) first at)
refused_after case (x ∷ xs) ys walk mid number kind first at = inr (first.0, length xs + number, first.1, refused_after case xs ys first.0 mid number kind first.2 at, omega arith)

pub refused_split : (case : Case) (xs ys : List Single) (walk : Walk) (number : ℕ) (kind : NodeKind) → Refuses case walk (xs ++ ys) number kind
    → Refuses case walk xs number kind ⊎ ((mid : Walk) × (more : ℕ) × Walked case walk xs mid × Refuses case mid ys more kind × (number ≡ length xs + more))
refused_split case [] ys walk number kind at = inr (walk, number, refl, at, omega arith)
refused_split case (x ∷ xs) ys walk number kind (inl at) = inl (inl at)
refused_split case (x ∷ xs) ys walk number kind (inr at) = elim (refused_split case xs ys at.0 at.1 kind at.3) [
  | inl front ↦ inl (inr (at.0, at.1, at.2, front, at.4))
  | inr behind ↦ inr (behind.0, behind.1, (at.0, at.2, behind.2), behind.3, omega (arith, at.4, behind.4))
]

-- a node taken where the due boxes are known
pub record TakenAt (case : Case) (before : Walk) (box : Box) (others : List Box) (node : Single) (after : Walk) : Type 0 where
  pub given : Option ℕ
  pub right : IsRightWith case box node given
  pub due : AreDueAfter case box others node.line after.due
  pub nodes : after.nodes ≡ suc before.nodes
  pub counts : after.counts ≡ both before.counts (counts_by node.line)
  pub bound : after.bound ≡ lower before.bound given

pub taken_at : (case : Case) (before : Walk) (box : Box) (others : List Box) (node : Single) (after : Walk) → before.due ≡ box ∷ others → Takes case before node after → TakenAt case before box others node after
taken_at case before box others node after is takes = go takes.box takes.others (same_box (sym takes.first ∙ is)) (same_others (sym takes.first ∙ is)) takes.right takes.due
  where
    same_box : takes.box ∷ takes.others ≡ box ∷ others → takes.box ≡ box
    same_box e = cc

    same_others : takes.box ∷ takes.others ≡ box ∷ others → takes.others ≡ others
    same_others e = cc

    go : (b : Box) (os : List Box) → b ≡ box → os ≡ others → IsRightWith case b node takes.given → AreDueAfter case b os node.line after.due → TakenAt case before box others node after
    go b os x y right due = record {
      given = takes.given;
      right = subst (λ (z : Box). IsRightWith case z node takes.given) x right;
      due = subst (λ (z : Box). AreDueAfter case z others node.line after.due) x (subst (λ (zs : List Box). AreDueAfter case b zs node.line after.due) y due);
      nodes = takes.nodes;
      counts = takes.counts;
      bound = takes.bound;
    }

-- bounds and counts in parts
pub lower_none : (a : Option ℕ) → lower a None ≡ a
lower_none None = refl
lower_none (Some a) = refl

pub lower_parts : (a b c : Option ℕ) → lower (lower a b) c ≡ lower a (lower b c)
lower_parts None b c = refl
lower_parts (Some a) None c = refl
lower_parts (Some a) (Some b) None = refl
lower_parts (Some a) (Some b) (Some c) = let e : min (min a b) c ≡ min a (min b c) = omega arith in ap Some e

or_parts : (a b c : Bool) → ((a || false) || b) || c ≡ a || (b || c)
or_parts true b c = refl
or_parts false true c = refl
or_parts false false c = refl

and_parts : (a b c : Bool) → ((a && true) && b) && c ≡ a && (b && c)
and_parts true true c = refl
and_parts true false c = refl
and_parts false b c = refl

pub counts_parts : (a x y : Counts) (relay at : ℕ) (below above : Tree) → x ≡ counts_of below → y ≡ counts_of above → (w : Counts) → w ≡ both a (counts_by (root (split relay at below above)).line)
    → both (both w x) y ≡ both a (counts_of (split relay at below above))
counts_parts a x y relay at below above is_x is_y w is_w =
    rw (is_x, is_y, is_w)
    (same (both (both (both a (counts_by (root (split relay at below above)).line)) (counts_of below)) (counts_of above)) (both a (counts_of (split relay at below above)))
    (omega arith) (or_parts a.open_leaf (has_open_leaf below) (has_open_leaf above)) (or_parts a.hair (has_hair below) (has_hair above)) (and_parts a.no_settings (has_no_settings below) (has_no_settings above)))
  where
    same : (c d : Counts) → c.boxes ≡ d.boxes → c.open_leaf ≡ d.open_leaf → c.hair ≡ d.hair → c.no_settings ≡ d.no_settings → c ≡ d
    same c d p q r s =
        ap (λ (n : ℕ). record { boxes = n; open_leaf = c.open_leaf; hair = c.hair; no_settings = c.no_settings }) p
        ∙ ap (λ (o : Bool). record { boxes = d.boxes; open_leaf = o; hair = c.hair; no_settings = c.no_settings }) q
        ∙ ap (λ (h : Bool). record { boxes = d.boxes; open_leaf = d.open_leaf; hair = h; no_settings = c.no_settings }) r
        ∙ ap (λ (n : Bool). record { boxes = d.boxes; open_leaf = d.open_leaf; hair = d.hair; no_settings = n }) s
