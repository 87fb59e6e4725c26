-- The headline (ours), the page to read first: what one may rest on after
-- `coord solve NETWORK CURRENTS SHEET CERT`, whoever advises the search.
--
-- For every network and currents table within the limits, settings that `solve` issues lie on the
-- relays' steps and keep the coordination interval and the time limits at every required row by the
-- curves' equations; every allowed choice costs at least the printed bound; and "no settings",
-- "closed", "hairline" and "budget spent" are answered only where each is true, with a written tree
-- that the separate checker accepts.
use Rattle.std.specs.Prelude.{◌≡◌, ◌≢◌, ℕ, ◌≤◌, List, length, IfSome, IsSomeAnd}
use Rattle.branch_bound.specs.Outcome.{IsReached}
use Rattle.branch_bound.specs.declared.outcome.Outcome.{Outcome}
use Rattle.cert_check.specs.Accepted.{IsAccepted}
use Rattle.cert_check.specs.Rightness.{IsRight, IsTextOf, claim_of}
use Rattle.cert_text.specs.CertText.{cert_text}
use Rattle.coord_io.specs.Files.{held, with_file}
use Rattle.coord_io.specs.Outside.{Changes, FolderState, SinkState, Takes, Told}
use Rattle.coord_io.specs.Written.{Gained}
use Rattle.coord_model.specs.Allowed.{IsAllowed}
use Rattle.coord_model.specs.Choice.{choice_data}
use Rattle.coord_model.specs.Cost.{CostsAtMost, IsBelowAll}
use Rattle.coord_model.specs.declared.choice.Ending.TheVariants.{BudgetSpent, Closed, Hairline, NoSettings}
use Rattle.coord_run.specs.Asserted.{HasNoSettings, IsClosed, IsHairline, IsSpent}
use Rattle.coord_run.specs.Certified.{cert_of}
use Rattle.coord_run.specs.FileLimits.{most_bytes_of}
use Rattle.coord_run.specs.Inputs.{AreInputs}
use Rattle.coord_run.specs.Report.{report_text, sheet_of}
use Rattle.coord_run.specs.Solve.{IsGapFor}
use Rattle.coord_run.specs.Status.{IsEnding, outcome_status}
use Rattle.coord_run.specs.declared.refusal.File.TheVariants as file
use Rattle.coord_words.specs.SolveWords.{SolveWords}
use Rattle.margin_rows.specs.Case.{Case}
use Rattle.settings_sheet.specs.SheetText.{IsSheet, sheet_text}

-- what an outcome of a search of the case asserts
pub record Asserts (case : Case) (gap budget : ℕ) (outcome : Outcome) : Type 0 where
  pub settings_allowed : IfSome outcome.issued (λ choice.
      IsAllowed case.study case.currents (choice_data choice))
  pub cost_at_most : IfSome outcome.issued (λ choice.
      IsSomeAnd outcome.cost (CostsAtMost case.study case.currents (choice_data choice)))
  pub bound_below_all : IfSome outcome.bound (IsBelowAll case.study case.currents)
  pub at_closed : outcome.ending ≡ Closed → IsClosed gap outcome
  pub at_no_settings : outcome.ending ≡ NoSettings → HasNoSettings case outcome
  pub at_budget_spent : outcome.ending ≡ BudgetSpent → IsSpent budget outcome
  pub at_hairline : outcome.ending ≡ Hairline → IsHairline case gap outcome
  pub reached_by_steps : IsReached case gap budget outcome

-- the certificate of the outcome has a text within the limit, with the gap and the budget that were
-- asked, and the checker accepts it
pub record Certifies (case : Case) (gap budget : ℕ) (outcome : Outcome) : Type 0 where
  pub is_text : IsTextOf (cert_of case outcome) (cert_text (cert_of case outcome))
  pub within : length (cert_text (cert_of case outcome)) ≤ most_bytes_of file.Cert
  pub right : IsRight case (cert_of case outcome)
  pub accepted : IsAccepted case (cert_text (cert_of case outcome))
      (claim_of (cert_of case outcome).head)
  pub gap_told : outcome.gap ≡ gap
  pub budget_told : outcome.budget ≡ budget

-- the study and its currents came to this outcome, and it is told
pub record Coordinates (asked : SolveWords) (before after : FolderState)
    (sink_before sink_after : SinkState) (status : ℕ) : Type 0 where
  pub case : Case
  pub outcome : Outcome
  pub gap : ℕ
  pub inputs_as_read : Told before after (λ m.
      AreInputs m asked.names.network asked.names.currents case.study case.currents)
  pub gap_as_asked : IsGapFor case asked.gap gap
  pub truth : Asserts case gap asked.budget outcome
  pub certificate : Certifies case gap asked.budget outcome
  pub sheet_is_text : IsSheet case.study (sheet_of outcome)
  pub files_written : Changes before after (λ m n.
      n ≡ with_file (with_file m asked.names.cert (cert_text (cert_of case outcome)))
      asked.names.sheet (sheet_text case.study (sheet_of outcome)))
  pub report_printed : Takes sink_before sink_after (Gained (report_text case outcome))
  pub status_is : status ≡ outcome_status outcome

-- `solve` with these words: what its endings assert, and that no other file changes, however it ends
pub record Headline (asked : SolveWords) (before after : FolderState)
    (sink_before sink_after : SinkState) (status : ℕ) : Type 0 where
  pub at_ending : IsEnding status → Coordinates asked before after sink_before sink_after status
  pub only_its_files_change : Changes before after (λ m n. (other : List ℕ)
      → other ≢ asked.names.sheet → other ≢ asked.names.cert → held n other ≡ held m other)
