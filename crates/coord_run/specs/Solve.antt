-- What `solve` does, from the files that are read to the certificate, the sheet and the report that are handed over (ours).
use Rattle.std.specs.Prelude.{◌≡◌, ◌⊎◌, ℕ, ◌<◌, Option, Some, None, max, [], ◌∷◌}
use Rattle.branch_bound.specs.Outcome.{IsReached}
use Rattle.branch_bound.specs.declared.outcome.Outcome.{Outcome}
use Rattle.cert_check.specs.Rightness.{IsRight}
use Rattle.cert_text.specs.CertData.{IsCert}
use Rattle.cert_text.specs.CertText.{cert_text}
use Rattle.coord_io.specs.Outside.{FolderState, SinkState, Told}
use Rattle.coord_run.specs.Causes.{CaseCause}
use Rattle.coord_run.specs.Certified.{cert_of}
use Rattle.coord_run.specs.End.{Ends, OutputData}
use Rattle.coord_run.specs.Inputs.{AreInputs, ReadsCase}
use Rattle.coord_run.specs.Report.{report_text, sheet_of}
use Rattle.coord_words.specs.SolveWords.{SolveWords}
use Rattle.coord_run.specs.Status.{outcome_status}
use Rattle.coord_run.specs.declared.refusal.Refusal.{Refusal}
use Rattle.coord_run.specs.declared.refusal.Refusal.TheVariants.{GapTooSmall}
use Rattle.margin_rows.specs.Case.{Case, FitsCase}
use Rattle.margin_rows.specs.Gap.{IsGapEnough, IsLeastGap}
use Rattle.settings_sheet.specs.SheetText.{sheet_text}

-- the gap that is searched with: the given one; or else the greater of 1,000 and the study's least gap
abbrev pub IsGapFor : Case → Option ℕ → ℕ → Type 0
IsGapFor case (Some given) gap = gap ≡ given
IsGapFor case None gap = (least : ℕ) × IsLeastGap case least × (gap ≡ max least 1000)

-- the gap is below the least gap of the case, and the refusal tells both
pub record IsGapTooSmall (case : Case) (asked : SolveWords) (refusal : Refusal) : Type 0 where
  pub gap : ℕ
  pub least : ℕ
  pub is_gap : asked.gap ≡ Some gap
  pub is_least : IsLeastGap case least
  pub below : gap < least
  pub told : refusal ≡ GapTooSmall gap least

-- why `solve` refuses: the two files make no case, or the gap is too small for it
abbrev pub SolveCause : SolveWords → FolderState → FolderState → Refusal → Type 0
SolveCause asked before after refusal =
    CaseCause before after asked.names.network asked.names.currents refusal
    ⊎ ReadsCase before after asked.names.network asked.names.currents (λ case. IsGapTooSmall case asked refusal)

-- the case is within the limits, and a search with this gap comes to the outcome
pub record ComesTo (case : Case) (asked : SolveWords) (outcome : Outcome) : Type 0 where
  pub fits : FitsCase case
  pub gap : ℕ
  pub is_gap : IsGapFor case asked.gap gap
  pub enough : IsGapEnough case gap
  pub reached : IsReached case gap asked.budget outcome

-- what is handed over for an outcome: its certificate, its sheet, and its report with its status
abbrev pub output_of : SolveWords → Case → Outcome → OutputData
output_of asked case outcome = record {
  files =
      (record { name = asked.names.cert; text = cert_text (cert_of case outcome) })
      ∷ (record { name = asked.names.sheet; text = sheet_text case.study (sheet_of outcome) }) ∷ [];
  report = report_text case outcome;
  status = outcome_status outcome;
}

-- the output is that of an outcome that the case comes to, and its certificate has a text and is right
pub record IsOutputOf (asked : SolveWords) (case : Case) (output : OutputData) : Type 0 where
  pub outcome : Outcome
  pub comes : ComesTo case asked outcome
  pub cert_fits : IsCert (cert_of case outcome)
  pub cert_right : IsRight case (cert_of case outcome)
  pub is : output ≡ output_of asked case outcome

-- the output is that of an outcome of the two files' case
pub record IsSolved (asked : SolveWords) (before after : FolderState) (output : OutputData) : Type 0 where
  pub case : Case
  pub inputs : Told before after (λ m. AreInputs m asked.names.network asked.names.currents case.study case.currents)
  pub of_case : IsOutputOf asked case output

-- `solve` ends so
abbrev pub Solves : SolveWords → FolderState → FolderState → SinkState → SinkState → ℕ → Type 0
Solves asked before after sink_before sink_after status =
    Ends asked.names (SolveCause asked before after) (IsSolved asked before after) before after sink_before sink_after status
