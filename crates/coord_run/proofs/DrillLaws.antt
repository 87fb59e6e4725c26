-- What a search of a ring comes to is as `drill` says.
use Rattle.std.proofs.Common.{◌≡◌, ℕ, ◌≤◌, List, [], length, Some, arith, refl, subst}
use Rattle.branch_bound.specs.Outcome.{IsReached}
use Rattle.branch_bound.specs.declared.outcome.Outcome.{Outcome}
use Rattle.coord_model.specs.Rows.{rows_of}
use Rattle.coord_model.specs.StudyData.{StudyData}
use Rattle.coord_model.specs.declared.study.Current.{Current}
use Rattle.coord_run.proofs.HeadlineLaws.{asserts}
use Rattle.coord_run.proofs.OutcomeLaws.{shown}
use Rattle.coord_run.specs.Drill.{IsDrillGap, IsDrilled, drill_case, drill_report}
use Rattle.coord_run.specs.Headline.{Asserts}
use Rattle.coord_words.specs.OptionNumbers.{IsRing}
use Rattle.coord_run.specs.Shown.{IsShown}
use Rattle.coord_run.specs.Solve.{ComesTo}
use Rattle.coord_words.specs.SolveWords.{SolveWords}
use Rattle.coord_run.specs.Status.{outcome_status}
use Rattle.coord_words.specs.Words.{only}
use Rattle.drill_ring.proofs.FewRows.{few_rows}
use Rattle.drill_ring.specs.Drill.{drill_data}
use Rattle.drill_ring.specs.DrillCurrents.{drill_currents}
use Rattle.margin_rows.specs.Case.{Case, FitsCase}

-- a ring has few rows
pub ring_has_few : (n : ℕ) (study : StudyData) (entries : List Current) → IsRing n → study ≡ drill_data n → entries ≡ drill_currents n → length (rows_of study entries) ≤ 4096
ring_has_few n study entries ring is are = rw (is, are) (few_rows n (record { at_least = ring.0; at_most = ring.1 }))

-- a search with this gap, as `solve` would be asked for it
abbrev asked : ℕ → SolveWords
asked gap = record { names = only []; gap = Some gap; budget = 200 }

module _ (case : Case) (outcome : Outcome) (fits : FitsCase case) (gap : ℕ) (gap_is : IsDrillGap case gap) (reached : IsReached case gap 200 outcome) where
  abbrev comes : ComesTo case (asked gap) outcome
  comes = record {
    fits = fits;
    gap = gap;
    is_gap = refl;
    enough = record { least = gap_is.0; exact = gap_is.1; at_least = omega (arith, gap_is.2) };
    reached = reached;
  }

  -- it can be printed
  pub found_shown : IsShown case outcome
  found_shown = shown case (asked gap) outcome comes

  -- it is as it asserts
  pub drilled : (n : ℕ) (report : List ℕ) (status : ℕ) → case ≡ drill_case n → status ≡ outcome_status outcome → report ≡ drill_report n case outcome → IsDrilled n report status
  drilled n report status is own printed = record {
    outcome = outcome;
    gap = gap;
    gap_is = subst (λ (c : Case). IsDrillGap c gap) is gap_is;
    truth = subst (λ (c : Case). Asserts c gap 200 outcome) is (asserts case (asked gap) outcome comes);
    report_is = subst (λ (c : Case). report ≡ drill_report n c outcome) is printed;
    status_is = own;
  }
