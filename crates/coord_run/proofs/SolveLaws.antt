-- What comes of a search is what `solve` hands over, and why a search is refused is why `solve` is.
use Rattle.std.proofs.Common.{◌≡◌, inr}
use Rattle.branch_bound.specs.declared.outcome.Outcome.{Outcome}
use Rattle.coord_io.specs.Outside.{FolderState, Told}
use Rattle.coord_run.specs.End.{OutputData}
use Rattle.coord_run.specs.Inputs.{AreInputs}
use Rattle.coord_run.specs.Solve.{ComesTo, IsGapTooSmall, IsSolved, SolveCause, output_of}
use Rattle.coord_words.specs.SolveWords.{IsAsked, SolveWords}
use Rattle.coord_run.proofs.CertLaws.{cert_fits, cert_right}
use Rattle.coord_run.specs.Stops.{StopsFor}
use Rattle.coord_run.specs.declared.refusal.Stop.{Stop}
use Rattle.coord_run.specs.declared.refusal.Stop.TheVariants as stop
use Rattle.margin_rows.specs.Case.{Case, FitsCase}

module _ (asked : SolveWords) (before after : FolderState) (case : Case) (fits : FitsCase case)
    (read : Told before after (λ m. AreInputs m asked.names.network asked.names.currents case.study case.currents)) where
  pub gap_stops : (why : Stop) → StopsFor why (IsGapTooSmall case asked) → StopsFor why (SolveCause asked before after)
  gap_stops stop.NoMemory is = tt
  gap_stops (stop.Refused refusal) is = inr (case, read, (fits.few_rows, is))

  pub solved : (outcome : Outcome) (output : OutputData) → IsAsked asked → ComesTo case asked outcome → output ≡ output_of asked case outcome → IsSolved asked before after output
  solved outcome output may comes is = record {
    case = case;
    inputs = read;
    of_case = record {
      outcome = outcome;
      comes = comes;
      cert_fits = cert_fits case asked outcome may comes;
      cert_right = cert_right case asked outcome may comes;
      is = is;
    };
  }
