-- The best of several weights, and of these and one more.
use Rattle.std.specs.Prelude.{ℤ, slice_get}
use Rattle.std.specs.Option.{IfSome}
use Rattle.std.proofs.Common.{◌≡◌, ℕ, zero, suc, ◌<◌, ◌≤◌, List, [], ◌∷◌, ◌++◌, length, Some, arith, rules, refl, sym, ap, ◌∙◌}
use Rattle.std.proofs.lemmas.Option.{slice_get_within}
use Rattle.margin_rows.specs.Box.{Box, FitsBox, HasNoEmptySpan}
use Rattle.margin_rows.specs.Case.{Case}
use Rattle.box_bound.specs.LowerBound.{IsPlainBound, bound_at}
use Rattle.box_bound.proofs.Values.{value_only}
use Rattle.step_rules.specs.Usable.{AreBestOf, HasBound, LeafWeights, plain_weights}

-- weights give a box one bound
pub bound_only : (case : Case) (box : Box) (weights : LeafWeights) (a b : ℕ) → FitsBox case box → HasNoEmptySpan box → HasBound case box weights a → HasBound case box weights b → a ≡ b
bound_only case box weights a b fits steps one other =
    one.exact ∙ ap (λ (z : ℤ). bound_at z weights.lambda) (value_only case box weights.lambda weights.rows one.value other.value steps fits.dials one.dual other.dual) ∙ sym other.exact

-- the plain bound is that of the plain weights
pub plain_has : (case : Case) (box : Box) (bound : ℕ) → IsPlainBound case box bound → HasBound case box plain_weights bound
plain_has case box bound is = record { value = is.0; dual = is.1; exact = is.2 }

-- a place of a list is that of the list with one more
front : (xs : List LeafWeights) (x v : LeafWeights) (i : ℕ) → slice_get xs i ≡ Some v → slice_get (xs ++ (x ∷ [])) i ≡ Some v
front [] x v i found = absurd cc
front (y ∷ ys) x v zero found = found
front (y ∷ ys) x v (suc i) found = front ys x v i found

last : (xs : List LeafWeights) (x : LeafWeights) → slice_get (xs ++ (x ∷ [])) (length xs) ≡ Some x
last [] x = refl
last (y ∷ ys) x = last ys x

in_front : (P : LeafWeights → Type 0) (xs : List LeafWeights) (x : LeafWeights) (i : ℕ) → i < length xs → IfSome (slice_get xs i) P → IfSome (slice_get (xs ++ (x ∷ [])) i) P
in_front P [] x i below here = absurd (omega (arith, below))
in_front P (y ∷ ys) x zero below here = here
in_front P (y ∷ ys) x (suc i) below here = in_front P ys x i (omega (arith, below)) here

each_more : (P : LeafWeights → Type 0) (xs : List LeafWeights) (x : LeafWeights) → ((i : ℕ) → IfSome (slice_get xs i) P) → P x → (i : ℕ) → IfSome (slice_get (xs ++ (x ∷ [])) i) P
each_more P [] x each here zero = here
each_more P [] x each here (suc i) = search rules
each_more P (y ∷ ys) x each here zero = each zero
each_more P (y ∷ ys) x each here (suc i) = each_more P ys x (λ k. each (suc k)) here i

if_more : (P Q : LeafWeights → Type 0) (xs : List LeafWeights) (i : ℕ) → ((w : LeafWeights) → P w → Q w) → IfSome (slice_get xs i) P → IfSome (slice_get xs i) Q
if_more P Q [] i more here = search rules
if_more P Q (y ∷ ys) zero more here = more y here
if_more P Q (y ∷ ys) (suc i) more here = if_more P Q ys i more here

module _ (case : Case) (box : Box) (fits : FitsBox case box) (steps : HasNoEmptySpan box) where
  -- one alone is the best
  pub best_alone : (weights : LeafWeights) (bound : ℕ) → HasBound case box weights bound → AreBestOf case box (weights ∷ []) weights bound
  best_alone weights bound gives = record {
    place = 0;
    stands = refl;
    gives = gives;
    before = λ i c below. absurd (omega (arith, below));
    others = λ i c. each_more (λ other. HasBound case box other c → c ≤ bound) [] weights (λ k. search rules) (λ has. let same = bound_only case box weights c bound fits steps has gives in omega (arith, same)) i;
  }

  module _ (several : List LeafWeights) (best other : LeafWeights) (bound more : ℕ) (are : AreBestOf case box several best bound) (has : HasBound case box other more) where
    -- with one more that gives no more the best is as before
    pub best_kept : more ≤ bound → AreBestOf case box (several ++ (other ∷ [])) best bound
    best_kept no_more = record {
      place = are.place;
      stands = front several other best are.place are.stands;
      gives = are.gives;
      before = λ i c below. in_front (λ w. HasBound case box w c → c < bound) several other i (omega (arith, below, slice_get_within several are.place best are.stands)) (are.before i c below);
      others = λ i c. each_more (λ w. HasBound case box w c → c ≤ bound) several other (λ k. are.others k c) (λ gives. let same = bound_only case box other c more fits steps gives has in omega (arith, same, no_more)) i;
    }

    -- one that gives more is the best
    pub best_taken : bound < more → AreBestOf case box (several ++ (other ∷ [])) other more
    best_taken above = record {
      place = length several;
      stands = last several other;
      gives = has;
      before = λ i c below. in_front (λ w. HasBound case box w c → c < more) several other i below
          (if_more (λ w. HasBound case box w c → c ≤ bound) (λ w. HasBound case box w c → c < more) several i (λ w less gives. omega (arith, less gives, above)) (are.others i c));
      others = λ i c. each_more (λ w. HasBound case box w c → c ≤ more) several other
          (λ k. if_more (λ w. HasBound case box w c → c ≤ bound) (λ w. HasBound case box w c → c ≤ more) several k (λ w less gives. omega (arith, less gives, above)) (are.others k c))
          (λ gives. let same = bound_only case box other c more fits steps gives has in omega (arith, same)) i;
    }

-- of the plain weights alone they are the best
pub best_begun : (case : Case) (box : Box) (weights : LeafWeights) (bound : ℕ) → FitsBox case box → HasNoEmptySpan box → IsPlainBound case box bound → weights ≡ plain_weights
    → AreBestOf case box (plain_weights ∷ []) weights bound
best_begun case box weights bound fits steps plain is = rw is (best_alone case box fits steps plain_weights bound (plain_has case box bound plain))
