-- What must come of a search, by what its outcome is.
use Rattle.std.proofs.Common.{◌≡◌, ◌≢◌, inl, inr, Bool, true, false, is_some, ℕ, ◌*◌, ◌<◌, ◌≤◌, Option, Some, None, ap, arith, refl, subst, sym}
use Rattle.std.specs.Prelude.{IfSome, IsSomeAnd, length, slice_index, ⊤}
use Rattle.branch_bound.specs.Choices.{choices}
use Rattle.branch_bound.specs.HairLeaf.{IsHairPlace}
use Rattle.branch_bound.specs.Outcome.{IsOutcome}
use Rattle.branch_bound.specs.declared.outcome.HairPlace.{HairPlace}
use Rattle.branch_bound.specs.declared.outcome.Outcome.{Outcome}
use Rattle.coord_model.specs.Choice.{Settings, choice_data}
use Rattle.coord_model.specs.Dial.{dial_of}
use Rattle.coord_model.specs.declared.choice.Ending.{Ending}
use Rattle.coord_model.specs.declared.choice.Ending.TheVariants.{BudgetSpent, Closed, Hairline, NoSettings}
use Rattle.coord_model.specs.declared.study.Row.{Row}
use Rattle.coord_run.specs.Answers.{HasExactTimes, IsExactTime, IsSearched}
use Rattle.coord_run.specs.Solve.{ComesTo}
use Rattle.coord_words.specs.SolveWords.{SolveWords}
use Rattle.coord_run.specs.Status.{IsEnding, ending_status, outcome_status}
use Rattle.coord_run.proofs.OutcomeLaws.{hairline_of, spent_of}
use Rattle.margin_rows.proofs.Boxed.{pickup_first}
use Rattle.margin_rows.proofs.Listed.{at_number, row_facts}
use Rattle.margin_rows.proofs.Spanned.{first_box_only}
use Rattle.margin_rows.specs.Box.{Box, IsFirstBox}
use Rattle.margin_rows.specs.Case.{Case, row_at, rows_in}
use Rattle.margin_rows.specs.FirstBox.{IsInFirstBox}
use Rattle.margin_rows.specs.Margin.{Meets, MeetsLoosely, MeetsStrictly, greatest_ps, least_ps}

exact_ends : (case : Case) (settings : Settings) (fault relay : ℕ) → IsInFirstBox case settings → relay < length case.study.relays
    → IsExactTime case fault relay → least_ps case settings fault relay ≡ greatest_ps case settings fault relay
exact_ends case settings fault relay first below exact =
    ap (λ n. dial_of case.study settings relay * n) (exact (slice_index settings.pickup relay) (pickup_first case settings relay first below))

exact_strict : (case : Case) (settings : Settings) (row : ℕ) → IsInFirstBox case settings → row < length (rows_in case) → HasExactTimes case
    → MeetsLoosely case settings (row_at case row) → MeetsStrictly case settings (row_at case row)
exact_strict case settings row first below exact loose =
    let r : Row = row_at case row in
    let facts = row_facts case r (at_number case row below) in
    let of_row = exact row _ below in
    let backup : least_ps case settings r.fault r.backup ≡ greatest_ps case settings r.fault r.backup = exact_ends case settings r.fault r.backup first facts.backup of_row.0 in
    let primary : least_ps case settings r.fault r.primary ≡ greatest_ps case settings r.fault r.primary = exact_ends case settings r.fault r.primary first facts.primary of_row.1 in
    subst (λ (fast : ℕ). Meets case.study r (least_ps case settings r.fault r.backup) fast) primary
    (subst (λ (slow : ℕ). Meets case.study r slow (least_ps case settings r.fault r.primary)) (sym backup) loose)

-- each ending has its status
pub ending_is : (ending : Ending) (issued : Bool) → IsEnding (ending_status ending issued)
ending_is Closed issued = inl refl
ending_is NoSettings issued = inr (inl refl)
ending_is BudgetSpent true = inr (inr (inl refl))
ending_is BudgetSpent false = inr (inr (inr (inl refl)))
ending_is Hairline true = inr (inr (inr (inr (inl refl))))
ending_is Hairline false = inr (inr (inr (inr (inr refl))))

-- for want of memory all that is asked of a search holds
pub searched_not : (case : Case) (budget : ℕ) → IsSearched case budget 30
searched_not case budget = record {
  ending = inr refl;
  decided = λ first is enough. (λ four. omega (arith, four), λ five. omega (arith, five));
  sharp = λ exact. (λ six. omega (arith, six), λ seven. omega (arith, seven));
}

module _ (case : Case) (asked : SolveWords) (outcome : Outcome) (comes : ComesTo case asked outcome) where
  abbrev issued : Bool
  issued = is_some outcome.issued

  is : IsOutcome case comes.gap asked.budget comes.reached.state outcome
  is = comes.reached.is_outcome

  not_spent : (first : Box) → IsFirstBox case first → 2 * choices first ≤ asked.budget → outcome.ending ≢ BudgetSpent
  not_spent first is_first enough =
      is.suffices (subst (λ (b : Box). 2 * choices b ≤ asked.budget) (first_box_only case first is.first is_first is.is_first) enough)

  not_hairline : HasExactTimes case → outcome.ending ≢ Hairline
  not_hairline exact ends = go outcome.hair (is.hair_there ends) is.hair
    where
      go : (place : Option HairPlace) → IsSomeAnd place (λ hair. ⊤) → IfSome place (IsHairPlace case is.first comes.reached.state.tree) → ⊥
      go None there is_place = there
      go (Some hair) there is_place =
          is_place.unmet (exact_strict case (choice_data hair.choice) hair.row is_place.first_box is_place.is_row exact (is_place.loose hair.row _ is_place.is_row))

  pub searched : IsSearched case asked.budget (outcome_status outcome)
  searched = record {
    ending = inl (ending_is outcome.ending issued);
    decided = λ first is_first enough. (
      λ four. not_spent first is_first enough (spent_of outcome.ending issued (omega (arith, four)) (omega (arith, four))),
      λ five. not_spent first is_first enough (spent_of outcome.ending issued (omega (arith, five)) (omega (arith, five))),
    );
    sharp = λ exact. (
      λ six. not_hairline exact (hairline_of outcome.ending issued (omega (arith, six))),
      λ seven. not_hairline exact (hairline_of outcome.ending issued (omega (arith, seven))),
    );
  }
