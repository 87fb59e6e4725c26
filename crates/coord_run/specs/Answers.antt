-- When an answer must come (ours): if the files are there and can be worked with, and nothing
-- outside fails, then a command answers. Want of memory alone, status 30, may come in its stead.
use Rattle.std.specs.Prelude.{◌≡◌, ◌≢◌, ◌⊎◌, ℕ, ◌*◌, ◌≤◌, Option, Some, None, All, IfSome}
use Rattle.branch_bound.specs.Choices.{choices}
use Rattle.coord_io.specs.Faults.{Rose}
use Rattle.coord_io.specs.Files.{Files}
use Rattle.coord_io.specs.Outside.{FolderState, SinkState}
use Rattle.coord_model.specs.StudyData.{StudyData}
use Rattle.coord_run.specs.Given.{IsRightFile, IsSheetOf, MakeCase, NothingFails}
use Rattle.coord_run.specs.Status.{IsEnding}
use Rattle.coord_run.specs.Inputs.{IsNetwork}
use Rattle.coord_words.specs.SolveWords.{SolveWords}
use Rattle.coord_words.specs.Words.{Command, check, drill, margins, pairs, solve}
use Rattle.margin_rows.specs.Box.{Box, IsFirstBox}
use Rattle.margin_rows.specs.Case.{Case, rows_in}
use Rattle.margin_rows.specs.FirstBox.{IsFirstStep}
use Rattle.margin_rows.specs.Gap.{IsGapEnough}
use Rattle.margin_rows.specs.Times.{time_at}

-- the two ends of the enclosure of the relay's time at the fault are equal, at each pickup step of
-- the first box
abbrev pub IsExactTime : Case → ℕ → ℕ → Type 0
IsExactTime case fault relay = (step : ℕ) → IsFirstStep case relay step
    → (time_at case fault relay step).lower ≡ (time_at case fault relay step).upper

-- all times that rows ask for are exact
abbrev pub HasExactTimes : Case → Type 0
HasExactTimes case =
    All (λ row. IsExactTime case row.fault row.backup × IsExactTime case row.fault row.primary)
    (rows_in case)

-- A search of the case comes to an ending. A budget of twice the pickup choices is not spent, and
-- exact times leave no hairline.
pub record IsSearched (case : Case) (budget status : ℕ) : Type 0 where
  pub ending : IsEnding status ⊎ (status ≡ 30)
  pub decided : (first : Box) → IsFirstBox case first → 2 * choices first ≤ budget
      → (status ≢ 4) × (status ≢ 5)
  pub sharp : HasExactTimes case → (status ≢ 6) × (status ≢ 7)

-- the report is printed, or memory ran out
abbrev pub IsReported : ℕ → Type 0
IsReported status = (status ≡ 0) ⊎ (status ≡ 30)

-- what must come of `solve` with these words, if no gap is given or one that is enough
abbrev pub MustSolve : SolveWords → FolderState → FolderState → SinkState → SinkState → ℕ → Type 0
MustSolve asked before after sink_before sink_after status =
    (files : Files) → NothingFails files before after sink_before sink_after
    → (case : Case) → MakeCase files asked.names case → IfSome asked.gap (IsGapEnough case)
    → IsSearched case asked.budget status

-- what must come of any words
abbrev pub MustAnswer : Option Command → FolderState → FolderState → SinkState → SinkState → ℕ
    → Type 0
MustAnswer None before after sink_before sink_after status =
    ¬ (Rose sink_before.faults sink_after.faults) → (status ≡ 2) ⊎ (status ≡ 30)
MustAnswer (Some (solve asked)) before after sink_before sink_after status =
    MustSolve asked before after sink_before sink_after status
MustAnswer (Some (pairs network)) before after sink_before sink_after status =
    (files : Files) → NothingFails files before after sink_before sink_after
    → (study : StudyData) → IsNetwork files network study → IsReported status
MustAnswer (Some (margins names)) before after sink_before sink_after status =
    (files : Files) → NothingFails files before after sink_before sink_after
    → (case : Case) → MakeCase files names case → IsSheetOf files names.sheet case
    → IsReported status
MustAnswer (Some (check names)) before after sink_before sink_after status =
    (files : Files) → NothingFails files before after sink_before sink_after
    → (case : Case) → MakeCase files names case → IsRightFile files names.cert case
    → IsReported status
MustAnswer (Some (drill n)) before after sink_before sink_after status =
    ¬ (Rose sink_before.faults sink_after.faults) → IsEnding status ⊎ (status ≡ 30)
