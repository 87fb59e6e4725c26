-- The premises of the rules of a step.
use Rattle.std.specs.Prelude.{◌↔◌, Bool, true, false, IsTrue, Option, Some, None, if◌then◌else◌, nat_lt}
use Rattle.std.specs.List.{All}
use Rattle.std.proofs.Common.{◌≡◌, ℕ, ◌+◌, ◌<◌, ◌≤◌, [], inl, inr, arith, rules, refl, subst, ◌∙◌}
use Rattle.std.proofs.lemmas.Bool.{cases_lt}
use Rattle.coord_model.specs.Choice.{Settings}
use Rattle.coord_model.specs.Tree.{bound}
use Rattle.margin_rows.specs.Box.{Box, FitsBox, HasNoEmptySpan}
use Rattle.margin_rows.specs.Case.{Case, FitsCase, rows_in}
use Rattle.margin_rows.specs.FirstBox.{IsInFirstBox}
use Rattle.margin_rows.specs.Gap.{IsGapEnough}
use Rattle.margin_rows.specs.Least.{IsStrictLeastOf}
use Rattle.margin_rows.specs.Lowest.{HasOnePickup, lowest_of}
use Rattle.margin_rows.specs.Margin.{MeetsStrictly}
use Rattle.margin_rows.specs.Price.{cost_of, lower_cost_of}
use Rattle.margin_rows.proofs.Widths.{gap_covers}
use Rattle.box_range.specs.Drops.{TightensTo}
use Rattle.box_bound.specs.LowerBound.{IsPlainBound}
use Rattle.box_bound.proofs.LowestBounds.{CostsMore, low_bound, lowest_fails}
use Rattle.step_rules.specs.Handlings.{IsDivided, tree_of}
use Rattle.step_rules.specs.Offers.{PlainReaches, Reaches, offered}
use Rattle.step_rules.specs.Premises.{Advised, ClosesBy, IsAsked, IsUndecided, IsVoidBy}
use Rattle.step_rules.specs.Rules.{Handled, divided}
use Rattle.step_rules.specs.Usable.{LeafWeights, plain_weights}
use Rattle.step_rules.specs.declared.handling.Handling.{Handling}
use Rattle.step_rules.specs.declared.handling.Handling.TheVariants.{Empty, Void, Bound, Hair, Split}
use Rattle.step_rules.proofs.Bests.{bound_only, plain_has}

-- a test that failed says that there is none
pub failed : {P : Type 0} (b : Bool) → b ≡ false → (IsTrue b ↔ P) → ¬ P
failed true is test holds = absurd cc
failed false is test holds = let t = test.1 holds in absurd cc

-- a plain bound that does not reach the cutoff is the one that would
pub not_plain : (case : Case) (gap : ℕ) (box : Box) (issued : Option Settings) (plain : ℕ) → FitsBox case box → HasNoEmptySpan box → IsPlainBound case box plain
    → ¬ (Reaches case gap issued plain) → ¬ (PlainReaches case gap box issued)
not_plain case gap box issued plain fits steps is above reach =
    above (subst (λ (b : ℕ). Reaches case gap issued b)
    (bound_only case box plain_weights reach.plain plain fits steps (plain_has case box reach.plain reach.exact) (plain_has case box plain is)) reach.reaches)

pub undecided : (case : Case) (gap : ℕ) (box : Box) (advised : Advised) (issued later : Option Settings) (plain : ℕ) → FitsBox case box → HasNoEmptySpan box → IsPlainBound case box plain
    → ¬ (Reaches case gap later plain) → IsAsked case gap box advised issued later → IsUndecided case gap box advised issued later
undecided case gap box advised issued later plain fits steps is above asked = record { asked = asked; open_after = not_plain case gap box later plain fits steps is above }

-- a leaf with the plain weights
pub plain_leaf : (case : Case) (gap : ℕ) (box : Box) (own weights : LeafWeights) (issued later : Option Settings) → weights ≡ plain_weights
    → Handled case gap box own issued later (bound 1 []) → Handled case gap box own issued later (bound weights.lambda weights.rows)
plain_leaf case gap box own weights issued later is handled = rw is handled

-- a box that is split is handled
pub split_handled : (case : Case) (gap : ℕ) (box tight : Box) (own : LeafWeights) (advised : Advised) (issued later : Option Settings) (handling : Handling) → TightensTo case box tight
    → IsUndecided case gap tight advised issued later → ¬ (IsVoidBy case tight advised.weights.rows) → ¬ (ClosesBy case gap tight advised.weights later)
    → IsDivided case tight own advised handling → Handled case gap box own issued later (tree_of handling)
split_handled case gap box tight own advised issued later (Split relay at low high) tightens undecided no_void no_close is = divided tightens undecided no_void no_close is
split_handled case gap box tight own advised issued later Empty tightens undecided no_void no_close is = absurd is
split_handled case gap box tight own advised issued later (Void rows) tightens undecided no_void no_close is = absurd is
split_handled case gap box tight own advised issued later (Bound weights) tightens undecided no_void no_close is = absurd is
split_handled case gap box tight own advised issued later (Hair row) tightens undecided no_void no_close is = absurd is

-- what is offered costs more than the cutoff if the settings that are issued then do
costs_more : (case : Case) (gap plain : ℕ) (issued offer : Option Settings) → ¬ (Reaches case gap (offered case issued offer) plain) → CostsMore case (plain + gap) offer
costs_more case gap plain issued None above = search rules
costs_more case gap plain None (Some offer) above = elim (cases_lt (plain + gap) (cost_of case offer)) [
  | inl more ↦ more
  | inr few ↦ absurd (above few)
]
costs_more case gap plain (Some held) (Some offer) above = go (nat_lt (cost_of case offer) (cost_of case held)) refl above
  where
    go : (b : Bool) → nat_lt (cost_of case offer) (cost_of case held) ≡ b → ¬ (Reaches case gap (if b then Some offer else Some held) plain) → plain + gap < cost_of case offer
    go true is above = elim (cases_lt (plain + gap) (cost_of case offer)) [
      | inl more ↦ more
      | inr few ↦ absurd (above few)
    ]
    go false is above = elim (cases_lt (plain + gap) (cost_of case held)) [
      | inl more ↦ let no_less : cost_of case held ≤ cost_of case offer = grind (arith, is) in omega (arith, no_less, more)
      | inr few ↦ absurd (above few)
    ]

-- then the lowest settings of the box do not strictly meet every row
pub unmet_row : (case : Case) (gap plain : ℕ) (box : Box) (issued later offer : Option Settings) → FitsCase case → FitsBox case box → HasNoEmptySpan box → HasOnePickup box
    → IsGapEnough case gap → IsPlainBound case box plain → IsStrictLeastOf case (lowest_of box).pickup offer → later ≡ offered case issued offer → ¬ (Reaches case gap later plain)
    → ¬ (All (MeetsStrictly case (lowest_of box)) (rows_in case))
unmet_row case gap plain box issued later offer limits fits steps one wide is least now above =
    lowest_fails case box offer gap fits steps least covers (subst (λ (b : ℕ). CostsMore case (b + gap) offer) same (costs_more case gap plain issued offer more))
  where
    same : plain ≡ lower_cost_of case (lowest_of box)
    same = is.2 ∙ low_bound case box limits fits steps one is.0 is.1

    more : ¬ (Reaches case gap (offered case issued offer) plain)
    more = subst (λ (o : Option Settings). ¬ (Reaches case gap o plain)) now above

    covers : (settings : Settings) → IsInFirstBox case settings → cost_of case settings ≤ lower_cost_of case settings + gap
    covers settings first = omega (arith, gap_covers case wide.exact.0 settings wide.exact.1 first, wide.exact.2, wide.at_least)
