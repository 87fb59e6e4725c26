-- What a done search shows.
use Rattle.std.specs.Prelude.{slice_get, nat_lt, ◌==◌, ⊤, if◌then◌else◌}
use Rattle.std.specs.List.{sum_by}
use Rattle.std.specs.Option.{IfSome, IsSomeAnd, MatchOption}
use Rattle.std.proofs.Common.{◌≡◌, ◌≢◌, ℕ, zero, suc, ◌-◌, ◌*◌, ◌<◌, ◌≤◌, inl, inr, Bool, true, false, ◌&&◌, not, List, [], ◌∷◌, length, Option, Some, None, arith, refl, sym, ap, ◌∙◌, subst}
use Rattle.std.proofs.lemmas.Bool.{and_parts, cases_lt, eqb-true, true≢false}
use Rattle.std.proofs.lemmas.List.Sums.{sum_by-cons}
use Rattle.coord_model.specs.Choice.{choice_data}
use Rattle.coord_model.specs.Tree.{Tree, bound, empty, hair, open_leaf, split, void}
use Rattle.coord_model.specs.TreeLimits.{FitsTree}
use Rattle.coord_model.specs.declared.choice.Ending.{Ending}
use Rattle.coord_model.specs.declared.choice.Ending.TheVariants.{BudgetSpent, Closed, Hairline, NoSettings}
use Rattle.coord_model.specs.declared.study.Relay.{Relay}
use Rattle.margin_rows.specs.Box.{Box, FitsBox, HasNoEmptySpan, IsIn}
use Rattle.margin_rows.specs.Case.{Case}
use Rattle.margin_rows.specs.FirstBox.{IsFirstStep, IsInFirstBox}
use Rattle.margin_rows.specs.declared.span.Steps.{Steps}
use Rattle.margin_rows.proofs.Inside.{first_box_holds}
use Rattle.margin_rows.proofs.Places.{some_and}
use Rattle.margin_rows.proofs.Placed.{of_some}
use Rattle.margin_rows.proofs.Spanned.{first_box_fits}
use Rattle.box_range.specs.Drops.{none}
use Rattle.cert_tree.specs.Endings.{boxes as boxes_of, ending_of, has_hair, has_no_settings, has_open_leaf, is_close}
use Rattle.cert_tree.specs.Holding.{Holds}
use Rattle.cert_tree.specs.NodeRules.{IsRight}
use Rattle.cert_tree.proofs.TightBoxes.{tight_or_emptied}
use Rattle.step_rules.specs.Issuing.{IsPriced, settings_of}
use Rattle.step_rules.specs.declared.issued.Issued.{Issued}
use Rattle.branch_bound.specs.Choices.{choices}
use Rattle.branch_bound.specs.Concluding.{IsConcluded, end_state}
use Rattle.branch_bound.specs.Facts.{Every, IsFair, IsFairTree}
use Rattle.branch_bound.specs.HairLeaf.{IsFirstHair, IsHairPlace}
use Rattle.branch_bound.specs.Outcome.{PassesNoneOver}
use Rattle.branch_bound.specs.declared.outcome.HairPlace.{HairPlace}
use Rattle.branch_bound.proofs.Hairs.{hair_settings}
use Rattle.branch_bound.proofs.Held.{held}
use Rattle.branch_bound.proofs.PassedOver.{none_passed}
use Rattle.branch_bound.proofs.Sizes.{boxes_fewer, depth_few, nodes_by_boxes, nodes_count, nodes_few, pickup_steps}
use Rattle.branch_bound.proofs.Starting.{steps_or_empty}
use Rattle.branch_bound.proofs.Turning.{every_map}

-- spans within the steps of relays have no more steps than these
steps_few : (spans : List Steps) (relays : List Relay) → length spans ≡ length relays → ((i : ℕ) (s : Steps) (r : Relay) → slice_get spans i ≡ Some s → slice_get relays i ≡ Some r → s.past - s.low ≤ r.plug_count)
    → sum_by (λ (span : Steps). span.past - span.low) spans ≤ sum_by (λ (relay : Relay). relay.plug_count) relays
steps_few [] [] same each = omega arith
steps_few [] (r ∷ relays) same each = absurd (omega (arith, same))
steps_few (s ∷ spans) [] same each = absurd (omega (arith, same))
steps_few (s ∷ spans) (r ∷ relays) same each =
    let here = each zero s r refl refl in
    let others = steps_few spans relays (omega (arith, same)) (λ i t q found there. each (suc i) t q found there) in
    rw (sum_by-cons (λ (span : Steps). span.past - span.low) s spans, sum_by-cons (λ (relay : Relay). relay.plug_count) r relays) (omega (arith, here, others))

-- a box of the first box has at most the pickup steps of the relays
box_steps : (case : Case) (box : Box) → FitsBox case box → pickup_steps box ≤ sum_by (λ (relay : Relay). relay.plug_count) case.study.relays
box_steps case box fits = steps_few box.pickup case.study.relays fits.pickups each
  where
    each : (i : ℕ) (s : Steps) (r : Relay) → slice_get box.pickup i ≡ Some s → slice_get case.study.relays i ≡ Some r → s.past - s.low ≤ r.plug_count
    each i s r found there = elim (cases_lt s.low s.past) [
      | inr gone ↦ omega (arith, gone)
      | inl some ↦
          let inside : IsIn s (s.past - 1) = record { from = omega (arith, some); before = omega (arith, some) } in
          let first = of_some (slice_get box.pickup i) (λ span. IsIn span (s.past - 1) → IsFirstStep case i (s.past - 1)) s found (fits.pickup i (s.past - 1)) inside in
          let step = some_and (slice_get case.study.relays i) _ first in
          let last : s.past - 1 < step.0.plug_count = step.2.0 in
          let same : step.0.plug_count ≡ r.plug_count = ap (λ (o : Option Relay). plugs o) (sym step.1 ∙ there) in
          omega (arith, last, same, some)
    ]
      where
        plugs : Option Relay → ℕ
        plugs None = 0
        plugs (Some relay) = relay.plug_count

-- a tree of right nodes with an open leaf stands at a box with a step in each span
open_steps : (case : Case) (box : Box) (tree : Tree) → Every case (IsRight case) box tree → has_open_leaf tree ≡ true → HasNoEmptySpan box
open_steps case box (split relay at below above) (low, high, node, halves, all_low, all_high) stands = elim (steps_or_empty box) [
  | inr steps ↦ steps
  | inl gone ↦ absurd (tight_or_emptied case box node.asks.0 node.asks.1 (record { end = box; drops = none; empty = gone }))
]
open_steps case box empty node stands = absurd (true≢false (sym stands))
open_steps case box (void weights) node stands = absurd (true≢false (sym stands))
open_steps case box (bound lambda weights) node stands = absurd (true≢false (sym stands))
open_steps case box (hair row) node stands = absurd (true≢false (sym stands))
open_steps case box (open_leaf lambda weights) node stands = node.asks

-- the first ending of which the test is true
abbrev first_of : Bool → Bool → Bool → Bool → Bool → Option Ending
first_of over none_there near open_spent hair_left =
    if over then None else if none_there then Some NoSettings else if near then Some Closed else if open_spent then Some BudgetSpent else if hair_left then Some Hairline else None

abbrev OnSpent : Option Ending → Type 0
OnSpent None = ⊥
OnSpent (Some NoSettings) = ⊥
OnSpent (Some Closed) = ⊥
OnSpent (Some BudgetSpent) = ⊤
OnSpent (Some Hairline) = ⊥

abbrev OnHairline : Option Ending → Type 0
OnHairline None = ⊥
OnHairline (Some NoSettings) = ⊥
OnHairline (Some Closed) = ⊥
OnHairline (Some BudgetSpent) = ⊥
OnHairline (Some Hairline) = ⊤

-- which test an ending rests on
spent_test : (over n c p q : Bool) → first_of over n c p q ≡ Some BudgetSpent → p ≡ true
spent_test true n c p q is = absurd (subst OnSpent (sym is) tt)
spent_test false true c p q is = absurd (subst OnSpent (sym is) tt)
spent_test false false true p q is = absurd (subst OnSpent (sym is) tt)
spent_test false false false true q is = refl
spent_test false false false false true is = absurd (subst OnSpent (sym is) tt)
spent_test false false false false false is = absurd (subst OnSpent (sym is) tt)

hairline_test : (over n c p q : Bool) → first_of over n c p q ≡ Some Hairline → q ≡ true
hairline_test true n c p q is = absurd (subst OnHairline (sym is) tt)
hairline_test false true c p q is = absurd (subst OnHairline (sym is) tt)
hairline_test false false true p q is = absurd (subst OnHairline (sym is) tt)
hairline_test false false false true q is = absurd (subst OnHairline (sym is) tt)
hairline_test false false false false true is = refl
hairline_test false false false false false is = absurd (subst OnHairline (sym is) tt)

module _ (case : Case) (gap budget n : ℕ) (issued : Option Issued) (tree : Tree) (is : IsConcluded case gap budget n issued tree) where
  fits : FitsBox case is.first
  fits = first_box_fits case is.first is.is_first

  pub fair : Every case (IsFair case gap (settings_of issued)) is.first tree
  fair = go is.sound.fair
    where
      go : IsFairTree case is.first gap (end_state tree issued) → Every case (IsFair case gap (settings_of issued)) is.first tree
      go (inr all) = all
      go (inl still) = elim is.done [
        | inl gone ↦ absurd (true≢false (ap has_open_leaf (sym still.0) ∙ gone))
        | inr spent ↦ absurd (omega (arith, spent, ap boxes_of still.0, is.some_budget))
      ]

  pub right : Every case (IsRight case) is.first tree
  right = every_map case (IsFair case gap (settings_of issued)) (IsRight case) is.first tree (λ b node f. f.right) fair

  pub tree_fits : FitsTree tree
  tree_fits = record {
    paths = omega (arith, depth_few case is.first tree fits right, box_steps case is.first fits, is.limits.study.pickup_steps);
    nodes = omega (arith, nodes_count tree, nodes_by_boxes tree, is.sound.within, is.budget_small);
    leaves = is.sound.leaves;
  }

  pub tree_holds : (b : Option ℕ) × Holds case is.first tree b
  tree_holds = held case is.first tree fits right

  pub passes : has_open_leaf tree ≡ false → PassesNoneOver case gap (settings_of issued)
  passes no_open settings inside met =
      none_passed case gap (settings_of issued) settings is.limits inside met is.first tree fits is.sound.leaves fair no_open (first_box_holds case is.first settings is.is_first inside)

  -- a budget of twice the pickup choices is not spent
  pub suffices : (b cost : Option ℕ) (e : Ending) → ending_of tree b cost gap budget ≡ Some e → 2 * choices is.first ≤ budget → e ≢ BudgetSpent
  suffices b cost e ends enough spent =
      let test = and_parts (has_open_leaf tree) (boxes_of tree == budget) (spent_test (nat_lt budget (boxes_of tree)) (has_no_settings tree) (is_close b cost gap) (has_open_leaf tree && (boxes_of tree == budget)) (has_hair tree && not (has_open_leaf tree)) (ends ∙ ap Some spent)) in
      let few = nodes_few case is.first tree fits (open_steps case is.first tree right test.0) right in
      omega (arith, few, boxes_fewer tree test.0, eqb-true (boxes_of tree) budget test.1, enough)

  -- at a hairline a hair leaf stands
  pub hairline_has : (b cost : Option ℕ) (e : Ending) → ending_of tree b cost gap budget ≡ Some e → e ≡ Hairline → has_hair tree ≡ true
  hairline_has b cost e ends hairline =
      (and_parts (has_hair tree) (not (has_open_leaf tree)) (hairline_test (nat_lt budget (boxes_of tree)) (has_no_settings tree) (is_close b cost gap) (has_open_leaf tree && (boxes_of tree == budget)) (has_hair tree && not (has_open_leaf tree)) (ends ∙ ap Some hairline))).0

  -- the place of the first hair leaf, if it was looked for
  pub hair_found : (found : Option HairPlace) → MatchOption found (has_hair tree ≡ false) (λ place. IsFirstHair case is.first tree place.row (choice_data place.choice)) → IfSome found (IsHairPlace case is.first tree)
  hair_found None there = tt
  hair_found (Some place) there =
      let s = hair_settings case is.first tree place.row (choice_data place.choice) fits right there in
      record { is_first = there; is_row = s.is_row; first_box = s.first_box; loose = s.loose; unmet = s.unmet }

  -- it is shown only at a hairline
  pub hair_shown : (found : Option HairPlace) (e : Ending)
      → (e ≡ Hairline → MatchOption found (has_hair tree ≡ false) (λ place. IsFirstHair case is.first tree place.row (choice_data place.choice))) → (e ≢ Hairline → found ≡ None) → IfSome found (IsHairPlace case is.first tree)
  hair_shown found Hairline looked alone = hair_found found (looked refl)
  hair_shown found NoSettings looked alone = rw (alone (λ same. subst OnHairline (sym (ap Some same)) tt)) tt
  hair_shown found Closed looked alone = rw (alone (λ same. subst OnHairline (sym (ap Some same)) tt)) tt
  hair_shown found BudgetSpent looked alone = rw (alone (λ same. subst OnHairline (sym (ap Some same)) tt)) tt

  -- and always there
  pub hair_stands : (found : Option HairPlace) (b cost : Option ℕ) (e : Ending) → ending_of tree b cost gap budget ≡ Some e → e ≡ Hairline
      → MatchOption found (has_hair tree ≡ false) (λ place. IsFirstHair case is.first tree place.row (choice_data place.choice)) → IsSomeAnd found (λ place. ⊤)
  hair_stands None b cost e ends hairline there = absurd (true≢false (sym (hairline_has b cost e ends hairline) ∙ there))
  hair_stands (Some place) b cost e ends hairline there = tt

-- what is issued lies in the first box
pub priced_first : (case : Case) (issued : Option Issued) → IfSome issued (IsPriced case) → IfSome (settings_of issued) (IsInFirstBox case)
priced_first case None priced = tt
priced_first case (Some held) priced = priced.first_box
