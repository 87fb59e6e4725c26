-- What a command hands over is that of the files as they were, also after it is written.
use Rattle.std.proofs.Common.{◌≡◌, ℕ, Some, List}
use Rattle.coord_io.specs.Files.{Files, held}
use Rattle.coord_io.specs.Outside.{Changes, FolderState}
use Rattle.coord_run.specs.Check.{IsCheckOutput}
use Rattle.coord_run.specs.End.{OutputData}
use Rattle.coord_run.specs.Inputs.{AreInputs, IsNetwork}
use Rattle.coord_run.specs.Margins.{IsMarginsOutput}
use Rattle.coord_run.specs.Pairs.{IsPairsOutput}
use Rattle.coord_run.specs.Settings.{GivesSettings}
use Rattle.coord_run.specs.Solve.{IsSolved}
use Rattle.coord_words.specs.SolveWords.{FileNames, SolveWords}
use Rattle.coord_run.proofs.ReadingLaws.{told_first}

pub solved_moves : (asked : SolveWords) (before between after : FolderState) (step : Files → Files → Type 0) → Changes between after step → (output : OutputData)
    → IsSolved asked before between output → IsSolved asked before after output
solved_moves asked before between after step moved output is = record {
  case = is.case;
  inputs = told_first before between after (λ m. AreInputs m asked.names.network asked.names.currents is.case.study is.case.currents) is.inputs moved;
  of_case = is.of_case;
}

pub pairs_moves : (network : List ℕ) (before between after : FolderState) (step : Files → Files → Type 0) → Changes between after step → (output : OutputData)
    → IsPairsOutput before between network output → IsPairsOutput before after network output
pairs_moves network before between after step moved output is =
    (is.0, told_first before between after (λ m. IsNetwork m network is.0) is.1 moved, is.2)

pub margins_moves : (names : FileNames) (before between after : FolderState) (step : Files → Files → Type 0) → Changes between after step → (output : OutputData)
    → IsMarginsOutput names before between output → IsMarginsOutput names before after output
margins_moves names before between after step moved output is =
    let case = is.0.0 in
    let report = is.0.2.1 in (
      (
        case,
        told_first before between after (λ m. AreInputs m names.network names.currents case.study case.currents) is.0.1 moved,
        (
          is.0.2.0,
          record {
            settings = report.settings;
            sheet = told_first before between after (λ m. GivesSettings m names.sheet case report.settings) report.sheet moved;
            fit = report.fit;
            is = report.is;
          },
        ),
      ),
      is.1,
      is.2,
    )

pub check_moves : (names : FileNames) (before between after : FolderState) (step : Files → Files → Type 0) → Changes between after step → (output : OutputData)
    → IsCheckOutput names before between output → IsCheckOutput names before after output
check_moves names before between after step moved output is =
    let case = is.0.0 in
    let report = is.0.2.1 in
    let accepted = report.accepted in (
      (
        case,
        told_first before between after (λ m. AreInputs m names.network names.currents case.study case.currents) is.0.1 moved,
        (
          is.0.2.0,
          record {
            claim = report.claim;
            accepted = record {
              bytes = accepted.bytes;
              whole = record {
                file = told_first before between after (λ m. held m names.cert ≡ Some accepted.bytes) accepted.whole.file moved;
                within = accepted.whole.within;
              };
              answer = accepted.answer;
            };
            below_all = report.below_all;
            is = report.is;
          },
        ),
      ),
      is.1,
      is.2,
    )
