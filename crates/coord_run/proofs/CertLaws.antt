-- The certificate of an outcome is one that has a text, and it is right: its tree holds and its claim agrees.
use Rattle.std.specs.Prelude.{slice_get, slice_index, nat_le, if◌then◌else◌}
use Rattle.std.specs.Option.{option_map}
use Rattle.std.proofs.Common.{◌≡◌, ◌∙◌, ℕ, ◌^◌, ◌<◌, ◌≤◌, Bool, true, false, inl, inr, length, Option, Some, None, IfSome, ap, arith, refl, subst, sym}
use Rattle.std.proofs.lemmas.List.{get_or_default}
use Rattle.std.proofs.lemmas.List.Elements.{recursion_from_All}
use Rattle.branch_bound.specs.Machine.{IsDone}
use Rattle.branch_bound.specs.Outcome.{IsOutcome}
use Rattle.branch_bound.specs.declared.outcome.Outcome.{Outcome}
use Rattle.cert_check.specs.Claims.{IfPrinted, IsOfStudy, IsPriced, study_head}
use Rattle.cert_check.specs.Rightness.{IsRight}
use Rattle.cert_text.specs.CertData.{AreIssued, AreSettings, IsCert, IsCertTree, IsHead, IsStudyHead}
use Rattle.cert_tree.specs.Endings.{boxes, ending_of, has_open_leaf}
use Rattle.cert_tree.specs.Holding.{Holds}
use Rattle.coord_model.specs.Allowed.{AreOnSteps, IsOnSteps}
use Rattle.coord_model.specs.Choice.{Settings, choice_data}
use Rattle.coord_model.specs.PartLimits.{FitsRelay}
use Rattle.coord_model.specs.Tree.{Tree, bound, empty, hair, open_leaf, shape, split, void}
use Rattle.coord_model.specs.declared.choice.Choice.{Choice}
use Rattle.coord_run.proofs.CertNodes.{nodes_held}
use Rattle.coord_run.proofs.EndingLaws.{few_of}
use Rattle.coord_run.proofs.GapLaws.{gap_within}
use Rattle.coord_run.proofs.OutcomeLaws.{shown}
use Rattle.coord_run.specs.Certified.{cert_of, study_shown}
use Rattle.coord_run.specs.Solve.{ComesTo}
use Rattle.coord_words.specs.SolveWords.{IsAsked, SolveWords}
use Rattle.margin_rows.proofs.Placed.{of_some}
use Rattle.margin_rows.proofs.Spanned.{first_box_fits}
use Rattle.margin_rows.proofs.Timed.{at_place}
use Rattle.margin_rows.proofs.Written.{in_list}
use Rattle.margin_rows.specs.Case.{Case, FitsCase}
use Rattle.margin_rows.specs.FirstBox.{IsInFirstBox}
use Rattle.margin_rows.specs.Gap.{IsGapEnough}
use Rattle.margin_rows.specs.Least.{IsStrictLeast}
use Rattle.margin_rows.specs.Price.{cost_of}

-- a tree without open leaves has a box that was worked on
closed_boxes : (tree : Tree) → has_open_leaf tree ≡ false → 1 ≤ boxes tree
closed_boxes (split relay at low high) is = omega arith
closed_boxes empty is = omega arith
closed_boxes (void weights) is = omega arith
closed_boxes (bound lambda weights) is = omega arith
closed_boxes (hair row) is = omega arith
closed_boxes (open_leaf lambda weights) is = let no : ⊥ = cc in absurd no

-- settings on the steps of a study within the limits
settings_fit : (case : Case) (settings : Settings) → FitsCase case → AreOnSteps case.study settings → AreSettings settings
settings_fit case settings fits on = record {
  paired = on.pickups ∙ sym on.dials;
  some = omega (arith, on.pickups, fits.study.relay_count.at_least);
  few = omega (arith, on.pickups, fits.study.relay_count.at_most);
  pickups = recursion_from_All (λ (step : ℕ). step ≤ 63) settings.pickup (λ k d below.
      let here = steps k (omega (arith, below, on.pickups)) in
      subst (λ (step : ℕ). step ≤ 63) (sym (get_or_default settings.pickup k d 0 below)) here.0);
  dials = recursion_from_All (λ (step : ℕ). step ≤ 3999) settings.dial (λ k d below.
      let here = steps k (omega (arith, below, on.dials)) in
      subst (λ (step : ℕ). step ≤ 3999) (sym (get_or_default settings.dial k d 0 below)) here.1);
}
  where
    steps : (k : ℕ) → k < length case.study.relays → (slice_index settings.pickup k ≤ 63) × (slice_index settings.dial k ≤ 3999)
    steps k below =
        let there = in_list case.study.relays k below in
        let relay = at_place (FitsRelay case.study) case.study.relays k there.0 fits.study.relays there.1 in
        let step = of_some (slice_get case.study.relays k) (λ r. IsOnSteps r (slice_index settings.pickup k) (slice_index settings.dial k)) there.0 there.1 (on.steps k) in
        (omega (arith, step.pickup_step, relay.plug_count.at_most), omega (arith, step.dial_step, relay.dial_count.at_most))

-- the study that a certificate tells
study_fits : (case : Case) → FitsCase case → IfSome (study_shown case) IsStudyHead
study_fits case fits = go (nat_le case.study.format 2)
  where
    go : (early : Bool) → IfSome (if early then None else Some (study_head case)) IsStudyHead
    go true = tt
    go false = record {
      format = (fits.study.format.at_least, fits.study.format.at_most);
      relays = (fits.study.relay_count.at_least, fits.study.relay_count.at_most);
      rows = fits.few_rows;
    }

study_is : (case : Case) → IsOfStudy case (study_shown case)
study_is case = go (nat_le case.study.format 2) refl
  where
    go : (early : Bool) → nat_le case.study.format 2 ≡ early → IsOfStudy case (if early then None else Some (study_head case))
    go true is = few_of case.study.format 2 is
    go false is = refl

module _ (case : Case) (asked : SolveWords) (outcome : Outcome) (allowed : IsAsked asked) (comes : ComesTo case asked outcome) where
  is : IsOutcome case comes.gap asked.budget comes.reached.state outcome
  is = comes.reached.is_outcome

  boxes_some : 1 ≤ boxes comes.reached.state.tree
  boxes_some = go comes.reached.done
    where
      go : IsDone asked.budget comes.reached.state → 1 ≤ boxes comes.reached.state.tree
      go (inl closed) = closed_boxes comes.reached.state.tree closed
      go (inr spent) = omega (arith, spent, allowed.budget.0)

  gap_fits : (1 ≤ comes.gap) × (comes.gap ≤ 10 ^ 12)
  gap_fits = gap_within case asked.gap comes.gap comes.fits allowed.gap comes.is_gap

  head_fits : IsHead (cert_of case outcome).head
  head_fits =
      let sheet = (shown case asked outcome comes).sheet in
      record {
        study = study_fits case comes.fits;
        gap = (omega (arith, is.same_gap, gap_fits.0), omega (arith, is.same_gap, gap_fits.1));
        budget = (omega (arith, is.same_budget, allowed.budget.0), omega (arith, is.same_budget, allowed.budget.1));
        boxes = (omega (arith, is.boxes, boxes_some), omega (arith, is.boxes, is.sound.within, allowed.budget.1));
        bound_goes = sheet.bound_goes;
        bound_short = sheet.bound_short;
        cost_goes = sheet.cost_goes;
        cost_short = sheet.cost_short;
      }

  issued_fit : AreIssued outcome.cost (option_map choice_data outcome.issued)
  issued_fit =
      let sheet = (shown case asked outcome comes).sheet in
      record { exactly = sheet.issued; within = go (option_map choice_data outcome.issued) sheet.on_steps }
    where
      go : (issued : Option Settings) → IfSome issued (AreOnSteps case.study) → IfSome issued AreSettings
      go None on = tt
      go (Some settings) on = settings_fit case settings comes.fits on

  tree_fits : IsCertTree (shape outcome.tree)
  tree_fits = subst IsCertTree (sym is.tree) (record {
    paths = is.fits.paths;
    nodes = is.fits.nodes;
    each = nodes_held case comes.fits is.first comes.reached.state.tree outcome.bound (first_box_fits case is.first is.is_first) is.sound.leaves is.holds;
  })

  -- the certificate has a text
  pub cert_fits : IsCert (cert_of case outcome)
  cert_fits = record { head = head_fits; issued = issued_fit; tree = tree_fits }

  settings_priced : IfPrinted (option_map choice_data outcome.issued) outcome.cost (IsPriced case)
  settings_priced = go outcome.issued outcome.cost comes.reached.state.issued is.issued is.first_box is.sound.least is.cost
    where
      go : (issued : Option Choice) (cost : Option ℕ) (held : Option Settings) → option_map choice_data issued ≡ held → IfSome held (IsInFirstBox case)
          → IfSome held (λ s. IsStrictLeast case s.pickup s) → cost ≡ option_map (cost_of case) held → IfPrinted (option_map choice_data issued) cost (IsPriced case)
      go None cost held same first least is = tt
      go (Some choice) cost held same first least is =
          let here = subst (λ o. IfSome o (IsInFirstBox case)) (sym same) first in
          let strict = subst (λ o. IfSome o (λ s. IsStrictLeast case s.pickup s)) (sym same) least in
          let costs : cost ≡ Some (cost_of case (choice_data choice)) = is ∙ ap (option_map (cost_of case)) (sym same) in
          subst (λ c. IfPrinted (Some (choice_data choice)) c (IsPriced case)) (sym costs) (record { inside = here; meets = strict.meet.met; costs = refl })

  -- and is right
  pub cert_right : IsRight case (cert_of case outcome)
  cert_right = record {
    bound = outcome.bound;
    holds = record { box = is.first; first = is.is_first; holds = subst (λ t. Holds case is.first t outcome.bound) (sym is.tree) is.holds };
    agrees = record {
      right = record { study = study_is case; priced = settings_priced };
      boxes = is.boxes ∙ ap boxes (sym is.tree);
      bound = refl;
      gap = subst (IsGapEnough case) (sym is.same_gap) comes.enough;
      ending = sym (ap (λ t. ending_of t outcome.bound outcome.cost outcome.gap outcome.budget) is.tree
          ∙ ap (λ gap. ending_of comes.reached.state.tree outcome.bound outcome.cost gap outcome.budget) is.same_gap
          ∙ ap (λ budget. ending_of comes.reached.state.tree outcome.bound outcome.cost comes.gap budget) is.same_budget ∙ is.ending);
    };
  }
