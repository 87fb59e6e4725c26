-- A tree holds at a box with one bound, or fails at one node in one way, never both.
use Rattle.std.specs.Prelude.{Option, Some, ℤ}
use Rattle.std.proofs.Common.{◌≡◌, ℕ, suc, ◌+◌, length, List, [], refl, sym, ◌∙◌, ap, subst}
use Rattle.coord_model.specs.Tree.{Single, Tree, split, empty, void, bound, hair, open_leaf, nodes_of, root}
use Rattle.coord_model.specs.declared.tree.NodeLine.{NodeLine}
use Rattle.coord_model.specs.declared.tree.NodeLine.TheVariants.{Split, Empty, Void, Bound, Hair, OpenLeaf}
use Rattle.coord_model.specs.declared.weights.Weight.{Weight}
use Rattle.margin_rows.specs.Box.{Box, FitsBox, HasNoEmptySpan}
use Rattle.margin_rows.specs.Case.{Case}
use Rattle.margin_rows.specs.Halves.{AreHalves, CanSplit}
use Rattle.margin_rows.proofs.Halved.{halves_are}
use Rattle.box_range.specs.Drops.{TightensTo}
use Rattle.box_bound.specs.LowerBound.{bound_at, IsPlainBound}
use Rattle.box_bound.proofs.Values.{value_only}
use Rattle.cert_tree.specs.Holding.{AreTightHalves, Fails, Holds, at_bound, at_empty, at_hair, at_open_leaf, at_split, at_void, below_high, below_low, here, lower}
use Rattle.cert_tree.specs.Judgement.{Gives, IsDualBound}
use Rattle.cert_tree.specs.NodeFaults.{IsFirstWrong}
use Rattle.cert_tree.specs.NodeRules.{Asks, IsRight}
use Rattle.cert_tree.specs.declared.kind.NodeKind.{NodeKind}
use Rattle.cert_tree.proofs.NodeLaws.{first_only, right_not_wrong}
use Rattle.cert_tree.proofs.TightBoxes.{halves_only, tight_fits, tight_only}

-- what holds of the parts of a tree that holds
pub record SplitHolds (case : Case) (box : Box) (relay at : ℕ) (below above : Tree) (b : Option ℕ) : Type 0 where
  pub low : Box
  pub high : Box
  pub low_bound : Option ℕ
  pub high_bound : Option ℕ
  pub right : IsRight case box (root (split relay at below above))
  pub halves : AreTightHalves case box relay at low high
  pub low_holds : Holds case low below low_bound
  pub high_holds : Holds case high above high_bound
  pub is : b ≡ lower low_bound high_bound

pub record LeafHolds (case : Case) (box : Box) (leaf : Tree) (b : Option ℕ) : Type 0 where
  pub right : IsRight case box (root leaf)
  pub gives : Gives case box (root leaf).weights (root leaf).line b

abbrev pub Parts : Case → Box → Tree → Option ℕ → Type 0
Parts case box (split relay at below above) b = SplitHolds case box relay at below above b
Parts case box empty b = LeafHolds case box empty b
Parts case box (void weights) b = LeafHolds case box (void weights) b
Parts case box (bound lambda weights) b = LeafHolds case box (bound lambda weights) b
Parts case box (hair row) b = LeafHolds case box (hair row) b
Parts case box (open_leaf lambda weights) b = LeafHolds case box (open_leaf lambda weights) b

pub parts : (case : Case) (box : Box) (tree : Tree) (b : Option ℕ) → Holds case box tree b → Parts case box tree b
parts case box tree b (at_split {box = x} {low = low} {high = high} {a = a} {b = c} right halves below above) = record {
  low = low;
  high = high;
  low_bound = a;
  high_bound = c;
  right = right;
  halves = halves;
  low_holds = below;
  high_holds = above;
  is = refl;
}
parts case box tree b (at_empty right) = record { right = right; gives = refl }
parts case box tree b (at_void right) = record { right = right; gives = refl }
parts case box tree b (at_bound {tight = tight} {value = value} right is dual) = record { right = right; gives = (tight, _, is, record { value = value; dual = dual; is = refl }, refl) }
parts case box tree b (at_hair {tight = tight} {plain = plain} right is of_plain) = record { right = right; gives = (tight, plain, is, of_plain, refl) }
parts case box tree b (at_open_leaf {value = value} right dual) = record { right = right; gives = (_, record { value = value; dual = dual; is = refl }, refl) }

-- where a tree that fails does so
pub data SplitFails (case : Case) (box : Box) (relay at : ℕ) (below above : Tree) (number : ℕ) (kind : NodeKind) : Type 0 where
  at_root : number ≡ 1 → IsFirstWrong case box (root (split relay at below above)) kind → SplitFails case box relay at below above number kind
  in_low : (low high : Box) (more : ℕ) → IsRight case box (root (split relay at below above)) → AreTightHalves case box relay at low high
      → Fails case low below more kind → number ≡ suc more → SplitFails case box relay at below above number kind
  in_high : (low high : Box) (a : Option ℕ) (more : ℕ) → IsRight case box (root (split relay at below above)) → AreTightHalves case box relay at low high
      → Holds case low below a → Fails case high above more kind → number ≡ suc (length (nodes_of below) + more) → SplitFails case box relay at below above number kind

pub record LeafFails (case : Case) (box : Box) (leaf : Tree) (number : ℕ) (kind : NodeKind) : Type 0 where
  pub first : number ≡ 1
  pub wrong : IsFirstWrong case box (root leaf) kind

abbrev pub FailParts : Case → Box → Tree → ℕ → NodeKind → Type 0
FailParts case box (split relay at below above) number kind = SplitFails case box relay at below above number kind
FailParts case box empty number kind = LeafFails case box empty number kind
FailParts case box (void weights) number kind = LeafFails case box (void weights) number kind
FailParts case box (bound lambda weights) number kind = LeafFails case box (bound lambda weights) number kind
FailParts case box (hair row) number kind = LeafFails case box (hair row) number kind
FailParts case box (open_leaf lambda weights) number kind = LeafFails case box (open_leaf lambda weights) number kind

wrong_here : (case : Case) (box : Box) (tree : Tree) (kind : NodeKind) → IsFirstWrong case box (root tree) kind → FailParts case box tree 1 kind
wrong_here case box (split relay at below above) kind wrong = at_root refl wrong
wrong_here case box empty kind wrong = record { first = refl; wrong = wrong }
wrong_here case box (void weights) kind wrong = record { first = refl; wrong = wrong }
wrong_here case box (bound lambda weights) kind wrong = record { first = refl; wrong = wrong }
wrong_here case box (hair row) kind wrong = record { first = refl; wrong = wrong }
wrong_here case box (open_leaf lambda weights) kind wrong = record { first = refl; wrong = wrong }

pub fail_parts : (case : Case) (box : Box) (tree : Tree) (number : ℕ) (kind : NodeKind) → Fails case box tree number kind → FailParts case box tree number kind
fail_parts case box tree number kind (here {tree = t} wrong) = wrong_here case box tree kind wrong
fail_parts case box tree number kind (below_low {low = low} {high = high} {number = more} right halves fails) = in_low low high more right halves fails refl
fail_parts case box tree number kind (below_high {low = low} {high = high} {number = more} {a = a} right halves holds fails) = in_high low high a more right halves holds fails refl

-- the tight box of a split that is right can be split there
pub can_split : (case : Case) (box tight : Box) (relay at : ℕ) (below above : Tree) → IsRight case box (root (split relay at below above)) → TightensTo case box tight → CanSplit tight relay at
can_split case box tight relay at below above right is =
    subst (λ (b : Box). CanSplit b relay at) (tight_only case box right.asks.0 tight right.asks.1 is) right.asks.2.can

-- the halves that it gives those below it are these alone
pub same_halves : (case : Case) (box : Box) (relay at : ℕ) (below above : Tree) (low high low' high' : Box) → IsRight case box (root (split relay at below above))
    → AreTightHalves case box relay at low high → AreTightHalves case box relay at low' high' → (low ≡ low') × (high ≡ high')
same_halves case box relay at below above low high low' high' right a b =
    halves_only a.tight relay at low high low' high' (can_split case box a.tight relay at below above right a.is_tight) a.halves
    (subst (λ (t : Box). AreHalves t relay at low' high') (tight_only case box b.tight a.tight b.is_tight a.is_tight) b.halves)

-- and fit if its box does
pub halves_fit : (case : Case) (box : Box) (relay at : ℕ) (below above : Tree) (low high : Box) → FitsBox case box → IsRight case box (root (split relay at below above))
    → AreTightHalves case box relay at low high → FitsBox case low × FitsBox case high
halves_fit case box relay at below above low high fits right halves =
    let are = halves_are halves.tight low high relay at (can_split case box halves.tight relay at below above right halves.is_tight) halves.halves in
    let tight = tight_fits case box halves.tight fits halves.is_tight in
    (are.1.0.fits case tight, are.1.1.fits case tight)

dual_only : (case : Case) (box : Box) (lambda : ℕ) (ws : List Weight) (a b : ℕ) → HasNoEmptySpan box → FitsBox case box → IsDualBound case box lambda ws a → IsDualBound case box lambda ws b → a ≡ b
dual_only case box lambda ws a b steps fits x y =
    x.is ∙ ap (λ (z : ℤ). bound_at z lambda) (value_only case box lambda ws x.value y.value steps fits.dials x.dual y.dual) ∙ sym y.is

-- a node gives one bound
pub gives_only : (case : Case) (box : Box) (node : Single) (line : NodeLine) (a b : Option ℕ) → FitsBox case box → Asks case box node line → Gives case box node.weights line a → Gives case box node.weights line b → a ≡ b
gives_only case box node (Split relay at) a b fits asks x y = x ∙ sym y
gives_only case box node Empty a b fits asks x y = x ∙ sym y
gives_only case box node Void a b fits asks x y = x ∙ sym y
gives_only case box node (Bound lambda) a b fits asks x y =
    let dual = subst (λ (t : Box). IsDualBound case t lambda node.weights y.1) (tight_only case box y.0 x.0 y.2 x.2) y.3 in
    x.4 ∙ ap Some (dual_only case x.0 lambda node.weights x.1 y.1 x.2.no_more.steps (tight_fits case box x.0 fits x.2) x.3 dual) ∙ sym y.4
gives_only case box node (Hair row) a b fits asks x y =
    let plain = subst (λ (t : Box). IsPlainBound case t y.1) (tight_only case box y.0 x.0 y.2 x.2) y.3 in
    x.4 ∙ ap Some (dual_only case x.0 1 [] x.1 y.1 x.2.no_more.steps (tight_fits case box x.0 fits x.2)
    (record { value = x.3.0; dual = x.3.1; is = x.3.2 }) (record { value = plain.0; dual = plain.1; is = plain.2 })) ∙ sym y.4
gives_only case box node (OpenLeaf lambda) a b fits asks x y = x.2 ∙ ap Some (dual_only case box lambda node.weights x.0 y.0 asks fits x.1 y.1) ∙ sym y.2

leaf_only : (case : Case) (box : Box) (leaf : Tree) (a b : Option ℕ) → FitsBox case box → LeafHolds case box leaf a → LeafHolds case box leaf b → a ≡ b
leaf_only case box leaf a b fits x y = gives_only case box (root leaf) (root leaf).line a b fits x.right.asks x.gives y.gives

-- a tree that holds has one bound
pub holds_only : (case : Case) (box : Box) (tree : Tree) (a b : Option ℕ) → FitsBox case box → Holds case box tree a → Holds case box tree b → a ≡ b
holds_only case box (split relay at below above) a b fits x y =
    let p = parts case box (split relay at below above) a x in
    let q = parts case box (split relay at below above) b y in
    let same = same_halves case box relay at below above p.low p.high q.low q.high p.right p.halves q.halves in
    let fit = halves_fit case box relay at below above p.low p.high fits p.right p.halves in
    let low = holds_only case p.low below p.low_bound q.low_bound fit.0 p.low_holds (subst (λ (h : Box). Holds case h below q.low_bound) (sym same.0) q.low_holds) in
    let high = holds_only case p.high above p.high_bound q.high_bound fit.1 p.high_holds (subst (λ (h : Box). Holds case h above q.high_bound) (sym same.1) q.high_holds) in
    p.is ∙ ap (λ (l : Option ℕ). lower l p.high_bound) low ∙ ap (lower q.low_bound) high ∙ sym q.is
holds_only case box empty a b fits x y = leaf_only case box empty a b fits (parts case box empty a x) (parts case box empty b y)
holds_only case box (void weights) a b fits x y = leaf_only case box (void weights) a b fits (parts case box (void weights) a x) (parts case box (void weights) b y)
holds_only case box (bound lambda weights) a b fits x y = leaf_only case box (bound lambda weights) a b fits (parts case box (bound lambda weights) a x) (parts case box (bound lambda weights) b y)
holds_only case box (hair row) a b fits x y = leaf_only case box (hair row) a b fits (parts case box (hair row) a x) (parts case box (hair row) b y)
holds_only case box (open_leaf lambda weights) a b fits x y = leaf_only case box (open_leaf lambda weights) a b fits (parts case box (open_leaf lambda weights) a x) (parts case box (open_leaf lambda weights) b y)

leaf_not_fails : (case : Case) (box : Box) (leaf : Tree) (a : Option ℕ) (number : ℕ) (kind : NodeKind) → LeafHolds case box leaf a → LeafFails case box leaf number kind → ⊥
leaf_not_fails case box leaf a number kind x y = right_not_wrong case box (root leaf) x.right kind y.wrong.wrong

-- a tree that holds does not fail
pub holds_not_fails : (case : Case) (box : Box) (tree : Tree) (a : Option ℕ) (number : ℕ) (kind : NodeKind) → Holds case box tree a → Fails case box tree number kind → ⊥
holds_not_fails case box (split relay at below above) a number kind x y =
    let p = parts case box (split relay at below above) a x in
    elim (fail_parts case box (split relay at below above) number kind y) [
      | at_root first wrong ↦ right_not_wrong case box (root (split relay at below above)) p.right kind wrong.wrong
      | in_low low high more right halves fails is ↦
          let same = same_halves case box relay at below above p.low p.high low high right p.halves halves in
          holds_not_fails case low below p.low_bound more kind (subst (λ (h : Box). Holds case h below p.low_bound) same.0 p.low_holds) fails
      | in_high low high b more right halves holds fails is ↦
          let same = same_halves case box relay at below above p.low p.high low high right p.halves halves in
          holds_not_fails case high above p.high_bound more kind (subst (λ (h : Box). Holds case h above p.high_bound) same.1 p.high_holds) fails
    ]
holds_not_fails case box empty a number kind x y = leaf_not_fails case box empty a number kind (parts case box empty a x) (fail_parts case box empty number kind y)
holds_not_fails case box (void weights) a number kind x y = leaf_not_fails case box (void weights) a number kind (parts case box (void weights) a x) (fail_parts case box (void weights) number kind y)
holds_not_fails case box (bound lambda weights) a number kind x y = leaf_not_fails case box (bound lambda weights) a number kind (parts case box (bound lambda weights) a x) (fail_parts case box (bound lambda weights) number kind y)
holds_not_fails case box (hair row) a number kind x y = leaf_not_fails case box (hair row) a number kind (parts case box (hair row) a x) (fail_parts case box (hair row) number kind y)
holds_not_fails case box (open_leaf lambda weights) a number kind x y = leaf_not_fails case box (open_leaf lambda weights) a number kind (parts case box (open_leaf lambda weights) a x) (fail_parts case box (open_leaf lambda weights) number kind y)

leaf_fails_only : (case : Case) (box : Box) (leaf : Tree) (n m : ℕ) (kind other : NodeKind) → LeafFails case box leaf n kind → LeafFails case box leaf m other → (n ≡ m) × (kind ≡ other)
leaf_fails_only case box leaf n m kind other x y = (x.first ∙ sym y.first, first_only case box (root leaf) kind other x.wrong y.wrong)

-- a tree that fails does so at one node and in one way
pub fails_only : (case : Case) (box : Box) (tree : Tree) (n m : ℕ) (kind other : NodeKind) → Fails case box tree n kind → Fails case box tree m other → (n ≡ m) × (kind ≡ other)
fails_only case box (split relay at below above) n m kind other x y =
    elim (fail_parts case box (split relay at below above) n kind x) [
      | at_root first wrong ↦ elim (fail_parts case box (split relay at below above) m other y) [
        | at_root first' wrong' ↦ (first ∙ sym first', first_only case box (root (split relay at below above)) kind other wrong wrong')
        | in_low low high more right halves fails is ↦ absurd (right_not_wrong case box (root (split relay at below above)) right kind wrong.wrong)
        | in_high low high a more right halves holds fails is ↦ absurd (right_not_wrong case box (root (split relay at below above)) right kind wrong.wrong)
      ]
      | in_low low high more right halves fails is ↦ elim (fail_parts case box (split relay at below above) m other y) [
        | at_root first' wrong' ↦ absurd (right_not_wrong case box (root (split relay at below above)) right other wrong'.wrong)
        | in_low low' high' more' right' halves' fails' is' ↦
            let same = same_halves case box relay at below above low' high' low high right' halves' halves in
            let both = fails_only case low below more more' kind other fails (subst (λ (h : Box). Fails case h below more' other) same.0 fails') in
            (is ∙ ap suc both.0 ∙ sym is', both.1)
        | in_high low' high' a more' right' halves' holds' fails' is' ↦
            let same = same_halves case box relay at below above low high low' high' right halves halves' in
            absurd (holds_not_fails case low' below a more kind holds' (subst (λ (h : Box). Fails case h below more kind) same.0 fails))
      ]
      | in_high low high a more right halves holds fails is ↦ elim (fail_parts case box (split relay at below above) m other y) [
        | at_root first' wrong' ↦ absurd (right_not_wrong case box (root (split relay at below above)) right other wrong'.wrong)
        | in_low low' high' more' right' halves' fails' is' ↦
            let same = same_halves case box relay at below above low' high' low high right' halves' halves in
            absurd (holds_not_fails case low below a more' other holds (subst (λ (h : Box). Fails case h below more' other) same.0 fails'))
        | in_high low' high' a' more' right' halves' holds' fails' is' ↦
            let same = same_halves case box relay at below above low' high' low high right' halves' halves in
            let both = fails_only case high above more more' kind other fails (subst (λ (h : Box). Fails case h above more' other) same.1 fails') in
            (is ∙ ap (λ (k : ℕ). suc (length (nodes_of below) + k)) both.0 ∙ sym is', both.1)
      ]
    ]
fails_only case box empty n m kind other x y = leaf_fails_only case box empty n m kind other (fail_parts case box empty n kind x) (fail_parts case box empty m other y)
fails_only case box (void weights) n m kind other x y = leaf_fails_only case box (void weights) n m kind other (fail_parts case box (void weights) n kind x) (fail_parts case box (void weights) m other y)
fails_only case box (bound lambda weights) n m kind other x y =
    leaf_fails_only case box (bound lambda weights) n m kind other (fail_parts case box (bound lambda weights) n kind x) (fail_parts case box (bound lambda weights) m other y)
fails_only case box (hair row) n m kind other x y = leaf_fails_only case box (hair row) n m kind other (fail_parts case box (hair row) n kind x) (fail_parts case box (hair row) m other y)
fails_only case box (open_leaf lambda weights) n m kind other x y =
    leaf_fails_only case box (open_leaf lambda weights) n m kind other (fail_parts case box (open_leaf lambda weights) n kind x) (fail_parts case box (open_leaf lambda weights) m other y)
