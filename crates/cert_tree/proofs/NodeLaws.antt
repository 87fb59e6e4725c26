-- A node is right at its box, or it is wrong in one way that is told first, never both.
use Rattle.std.specs.Prelude.{slice_get, List}
use Rattle.std.proofs.Common.{◌≡◌, ℕ, zero, suc, ◌<◌, inl, inr, arith, refl, sym, ◌∙◌, ap, subst}
use Rattle.std.proofs.lemmas.Bool.{cases_eq, cases_lt}
use Rattle.coord_model.specs.Tree.{Single}
use Rattle.coord_model.specs.declared.tree.NodeLine.{NodeLine}
use Rattle.coord_model.specs.declared.tree.NodeLine.TheVariants.{Split, Empty, Void, Bound, Hair, OpenLeaf}
use Rattle.coord_model.specs.declared.weights.Weight.{Weight}
use Rattle.margin_rows.specs.Box.{Box, HasEmptySpan, HasNoEmptySpan, IsEmpty}
use Rattle.margin_rows.specs.Case.{Case}
use Rattle.margin_rows.proofs.Placed.{of_some}
use Rattle.margin_rows.proofs.Places.{some_and}
use Rattle.box_range.specs.Drops.{TightensTo}
use Rattle.cert_tree.specs.Judgement.{single}
use Rattle.cert_tree.specs.NodeFaults.{IsClosing, IsFirstWrong, IsWrong, rank}
use Rattle.cert_tree.specs.NodeRules.{Asks, IsRight, IsVoid, NamesRows}
use Rattle.cert_tree.specs.declared.kind.NodeKind.{NodeKind}
use Rattle.cert_tree.specs.declared.kind.NodeKind.TheVariants.{RowNumber, SplitRelay, NotEmpty, Emptied, NotVoid, ManyPickups, NotHair, SplitAt}
use Rattle.cert_tree.proofs.TightBoxes.{tight_only, tight_or_emptied}

-- the first wrong of a `Void` whose dual value is not above 0
pub not_void : (case : Case) (box tight : Box) (ws : List Weight) → NamesRows case (single Void ws) → TightensTo case box tight
    → (IsVoid case tight (single Void ws) → ⊥) → IsFirstWrong case box (single Void ws) NotVoid
not_void case box tight ws names is none = record {
  wrong = (refl, λ other at. subst (λ (b : Box). IsVoid case b (single Void ws) → ⊥) (tight_only case box tight other is at) none);
  before = before;
}
  where
    before : (earlier : NodeKind) → rank earlier < 4 → IsWrong case box (single Void ws) earlier → ⊥
    before RowNumber less wrong = wrong names
    before SplitRelay less wrong = let e : Void ≡ Split wrong.0 wrong.1 = wrong.2 in cc
    before NotEmpty less wrong = let e : Void ≡ Empty = wrong.0 in cc
    before Emptied less (inl wrong) = tight_or_emptied case box tight is wrong.1
    before Emptied less (inr wrong) = let e : Void ≡ OpenLeaf wrong.0 = wrong.1 in cc
    before NotVoid less wrong = omega (arith, less)
    before ManyPickups less wrong = omega (arith, less)
    before NotHair less wrong = omega (arith, less)
    before SplitAt less wrong = omega (arith, less)

-- a box with a step in each span has no empty one
pub not_empty : (box : Box) → HasNoEmptySpan box → HasEmptySpan box → ⊥
not_empty box steps (inl gone) =
    let at = some_and (slice_get box.pickup gone.0) IsEmpty gone.1 in
    omega (arith, at.2, of_some (slice_get box.pickup gone.0) (λ span. span.low < span.past) at.0 at.1 (steps.pickup gone.0))
not_empty box steps (inr gone) =
    let at = some_and (slice_get box.dial gone.0) IsEmpty gone.1 in
    omega (arith, at.2, of_some (slice_get box.dial gone.0) (λ span. span.low < span.past) at.0 at.1 (steps.dial gone.0))

-- a closing node or a split that is right has a tight box
asks_tight : (case : Case) (box : Box) (node : Single) (line : NodeLine) → IsClosing line → Asks case box node line → (tight : Box) × TightensTo case box tight
asks_tight case box node (Split relay at) closing asks = (asks.0, asks.1)
asks_tight case box node Empty closing asks = absurd closing
asks_tight case box node Void closing asks = (asks.0, asks.1)
asks_tight case box node (Bound lambda) closing asks = (asks.0, asks.1)
asks_tight case box node (Hair row) closing asks = (asks.0, asks.1)
asks_tight case box node (OpenLeaf lambda) closing asks = absurd closing

module _ (case : Case) (box : Box) (node : Single) (right : IsRight case box node) where
  asked : (line : NodeLine) → node.line ≡ line → Asks case box node line
  asked line is = subst (λ (l : NodeLine). Asks case box node l) is right.asks

  -- a node that is right is wrong in no way
  pub right_not_wrong : (kind : NodeKind) → IsWrong case box node kind → ⊥
  right_not_wrong RowNumber wrong = wrong right.names
  right_not_wrong SplitRelay wrong = omega (arith, wrong.3, (asked (Split wrong.0 wrong.1) wrong.2).2.relay_fits)
  right_not_wrong NotEmpty wrong = wrong.1 (asked Empty wrong.0)
  right_not_wrong Emptied (inl wrong) = let at = asks_tight case box node node.line wrong.0 right.asks in tight_or_emptied case box at.0 at.1 wrong.1
  right_not_wrong Emptied (inr wrong) = not_empty box (asked (OpenLeaf wrong.0) wrong.1) wrong.2
  right_not_wrong NotVoid wrong = let at = asked Void wrong.0 in wrong.1 at.0 at.1 at.2
  right_not_wrong ManyPickups wrong = let at = asked (Hair wrong.0) wrong.1 in wrong.2 at.0 at.1 at.2.one_pickup
  right_not_wrong NotHair wrong = let at = asked (Hair wrong.0) wrong.1 in at.2.unmet (wrong.2 at.0 at.1)
  right_not_wrong SplitAt wrong = let at = asked (Split wrong.0 wrong.1) wrong.2 in wrong.3 at.0 at.1 at.2.can

-- the kind with a place in their order
kind_at : ℕ → NodeKind
kind_at zero = RowNumber
kind_at (suc zero) = SplitRelay
kind_at (suc (suc zero)) = NotEmpty
kind_at (suc (suc (suc zero))) = Emptied
kind_at (suc (suc (suc (suc zero)))) = NotVoid
kind_at (suc (suc (suc (suc (suc zero))))) = ManyPickups
kind_at (suc (suc (suc (suc (suc (suc zero)))))) = NotHair
kind_at (suc (suc (suc (suc (suc (suc (suc n))))))) = SplitAt

kind_of_rank : (kind : NodeKind) → kind_at (rank kind) ≡ kind
unfolding kind_at
kind_of_rank RowNumber = refl
kind_of_rank SplitRelay = refl
kind_of_rank NotEmpty = refl
kind_of_rank Emptied = refl
kind_of_rank NotVoid = refl
kind_of_rank ManyPickups = refl
kind_of_rank NotHair = refl
kind_of_rank SplitAt = refl

-- a node is wrong first in one way
pub first_only : (case : Case) (box : Box) (node : Single) (a b : NodeKind) → IsFirstWrong case box node a → IsFirstWrong case box node b → a ≡ b
first_only case box node a b x y = elim (cases_eq (rank a) (rank b)) [
  | inl same ↦ sym (kind_of_rank a) ∙ ap kind_at same ∙ kind_of_rank b
  | inr other ↦ elim (cases_lt (rank a) (rank b)) [
    | inl less ↦ absurd (y.before a less x.wrong)
    | inr more ↦ absurd (x.before b (omega (arith, other, more)) y.wrong)
  ]
]
