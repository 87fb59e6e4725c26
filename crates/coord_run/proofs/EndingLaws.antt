-- What each ending of a tree says of its counts, its bound and its cost.
use Rattle.std.specs.Prelude.{Option, Some, None, IfSome, ℤ, pos, negsuc, is_some, nat_le, not, if◌then◌else◌}
use Rattle.std.proofs.Common.{◌≡◌, ℕ, ◌+◌, ◌^◌, ◌<◌, ◌≤◌, ◌&&◌, Bool, true, false, arith, refl, sym, subst}
use Rattle.std.proofs.lemmas.Bool.Decides.{nat_tests}
use Rattle.box_bound.specs.LowerBound.{bound_at}
use Rattle.cert_tree.specs.Endings.{has_no_settings, is_close}
use Rattle.cert_tree.specs.Holding.{Holds, at_bound, at_empty, at_hair, at_open_leaf, at_split, at_void, lower}
use Rattle.coord_model.specs.Tree.{Tree}
use Rattle.coord_model.specs.declared.choice.Ending.{Ending}
use Rattle.coord_model.specs.declared.choice.Ending.TheVariants.{Closed, NoSettings, BudgetSpent, Hairline}
use Rattle.margin_rows.specs.Box.{Box}
use Rattle.margin_rows.specs.Case.{Case}
use Rattle.coord_text.specs.Claims.{IsShort}

-- the ending by what is asked of it in turn
abbrev pub ending_in_turn : Bool → Bool → Bool → Bool → Bool → Option Ending
ending_in_turn over none close spent hair =
    if over then None else if none then Some NoSettings else if close then Some Closed else if spent then Some BudgetSpent else if hair then Some Hairline else None

pub none_asks : (over none close spent hair : Bool) → ending_in_turn over none close spent hair ≡ Some NoSettings → none ≡ true
none_asks true none close spent hair is = let no : ⊥ = cc in absurd no
none_asks false true close spent hair is = refl
none_asks false false true spent hair is = let no : ⊥ = cc in absurd no
none_asks false false false true hair is = let no : ⊥ = cc in absurd no
none_asks false false false false true is = let no : ⊥ = cc in absurd no
none_asks false false false false false is = let no : ⊥ = cc in absurd no

pub closed_asks : (over none close spent hair : Bool) → ending_in_turn over none close spent hair ≡ Some Closed → close ≡ true
closed_asks true none close spent hair is = let no : ⊥ = cc in absurd no
closed_asks false true close spent hair is = let no : ⊥ = cc in absurd no
closed_asks false false true spent hair is = refl
closed_asks false false false true hair is = let no : ⊥ = cc in absurd no
closed_asks false false false false true is = let no : ⊥ = cc in absurd no
closed_asks false false false false false is = let no : ⊥ = cc in absurd no

pub spent_asks : (over none close spent hair : Bool) → ending_in_turn over none close spent hair ≡ Some BudgetSpent → (none ≡ false) × (spent ≡ true)
spent_asks true none close spent hair is = let no : ⊥ = cc in absurd no
spent_asks false true close spent hair is = let no : ⊥ = cc in absurd no
spent_asks false false true spent hair is = let no : ⊥ = cc in absurd no
spent_asks false false false true hair is = (refl, refl)
spent_asks false false false false true is = let no : ⊥ = cc in absurd no
spent_asks false false false false false is = let no : ⊥ = cc in absurd no

pub hairline_asks : (over none close spent hair : Bool) → ending_in_turn over none close spent hair ≡ Some Hairline → (none ≡ false) × (close ≡ false) × (hair ≡ true)
hairline_asks true none close spent hair is = let no : ⊥ = cc in absurd no
hairline_asks false true close spent hair is = let no : ⊥ = cc in absurd no
hairline_asks false false true spent hair is = let no : ⊥ = cc in absurd no
hairline_asks false false false true hair is = let no : ⊥ = cc in absurd no
hairline_asks false false false false true is = (refl, refl, refl)
hairline_asks false false false false false is = let no : ⊥ = cc in absurd no

pub both : (a b : Bool) → (a && b) ≡ true → (a ≡ true) × (b ≡ true)
both true b is = (refl, is)
both false b is = let no : ⊥ = cc in absurd no

pub few_of : (a b : ℕ) → nat_le a b ≡ true → a ≤ b
few_of a b is = grind (arith, nat_tests)

many_of : (a b : ℕ) → nat_le a b ≡ false → b < a
many_of a b is = grind (arith, nat_tests)

pub is_not : (b : Bool) → not b ≡ true → b ≡ false
is_not true is = let no : ⊥ = cc in absurd no
is_not false is = refl

-- a bound and a cost that are close
pub close_says : (b c : Option ℕ) (gap : ℕ) → is_close b c gap ≡ true → (cost : ℕ) × (low : ℕ) × (c ≡ Some cost) × (b ≡ Some low) × (cost ≤ low + gap)
close_says None c gap is = let no : ⊥ = cc in absurd no
close_says (Some low) None gap is = let no : ⊥ = cc in absurd no
close_says (Some low) (Some cost) gap is = (cost, low, refl, refl, few_of cost (low + gap) is)

-- a bound that is not close to a cost
pub apart_says : (low : ℕ) (c : Option ℕ) (gap : ℕ) → is_close (Some low) c gap ≡ false → IfSome c (λ cost. low + gap < cost)
apart_says low None gap is = tt
apart_says low (Some cost) gap is = many_of cost (low + gap) is

-- ---- the bound of a tree

bound_short : (value : ℤ) (lambda : ℕ) → bound_at value lambda < 10 ^ 16
bound_short (pos n) lambda = omega arith
bound_short (negsuc n) lambda = omega arith

lower_short : (a b : Option ℕ) → IsShort a → IsShort b → IsShort (lower a b)
lower_short None b short other = other
lower_short (Some a) None short other = short
lower_short (Some a) (Some b) short other = omega (arith, short, other)

-- a bound has at most 16 digits
pub holds_short : (case : Case) (box : Box) (tree : Tree) (b : Option ℕ) → Holds case box tree b → IsShort b
holds_short case box tree b (at_split {low = x} {high = y} {below = l} {above = h} {a = a} {b = c} right halves below above) =
    lower_short a c (holds_short case x l a below) (holds_short case y h c above)
holds_short case box tree b (at_empty right) = tt
holds_short case box tree b (at_void right) = tt
holds_short case box tree b (at_bound {lambda = lambda} {value = value} right is dual) = bound_short value lambda
holds_short case box tree b (at_hair {plain = plain} right is of_plain) = subst (λ (n : ℕ). n < 10 ^ 16) (sym of_plain.2) (bound_short of_plain.0 1)
holds_short case box tree b (at_open_leaf {lambda = lambda} {value = value} right dual) = bound_short value lambda

lower_some : (a b : Option ℕ) (x y : Bool) → is_some a ≡ not x → is_some b ≡ not y → is_some (lower a b) ≡ not (x && y)
lower_some None b true y first other = other
lower_some None b false y first other = let no : ⊥ = cc in absurd no
lower_some (Some a) b true y first other = let no : ⊥ = cc in absurd no
lower_some (Some a) None false y first other = refl
lower_some (Some a) (Some b) false y first other = refl

-- there is one exactly if some leaf is neither `Empty` nor `Void`
pub holds_some : (case : Case) (box : Box) (tree : Tree) (b : Option ℕ) → Holds case box tree b → is_some b ≡ not (has_no_settings tree)
holds_some case box tree b (at_split {low = x} {high = y} {below = l} {above = h} {a = a} {b = c} right halves below above) =
    lower_some a c (has_no_settings l) (has_no_settings h) (holds_some case x l a below) (holds_some case y h c above)
holds_some case box tree b (at_empty right) = refl
holds_some case box tree b (at_void right) = refl
holds_some case box tree b (at_bound right is dual) = refl
holds_some case box tree b (at_hair right is of_plain) = refl
holds_some case box tree b (at_open_leaf right dual) = refl
