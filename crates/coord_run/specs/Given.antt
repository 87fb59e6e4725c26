-- What is given where an answer must come (ours): a folder and a sink that do not fail, and files
-- that can be worked with. They are told by what they are, not by what a command says of them.
use Rattle.std.specs.Prelude.{◌≡◌, ℕ, ◌≤◌, Option, Some, List, length}
use Rattle.cert_check.specs.Rightness.{IsRight, IsTextOf}
use Rattle.cert_text.specs.CertData.{CertData}
use Rattle.coord_io.specs.Faults.{Rose}
use Rattle.coord_io.specs.Files.{Files, held}
use Rattle.coord_io.specs.Outside.{FolderState, SinkState}
use Rattle.coord_model.specs.Choice.{Settings}
use Rattle.coord_run.specs.FileLimits.{most_bytes_of}
use Rattle.coord_run.specs.Inputs.{AreInputs}
use Rattle.coord_run.specs.Settings.{FitFirstBox, GivesSettings}
use Rattle.coord_words.specs.SolveWords.{FileNames}
use Rattle.coord_run.specs.declared.refusal.File.TheVariants as file
use Rattle.margin_rows.specs.Case.{Case, rows_in}

-- the folder tells its files, these ones before, and no count of failures rose
pub record NothingFails (files : Files) (before after : FolderState)
    (sink_before sink_after : SinkState) : Type 0 where
  pub later : Files
  pub told_before : before.files ≡ Some files
  pub told_after : after.files ≡ Some later
  pub reads : ¬ (Rose before.reads after.reads)
  pub writes : ¬ (Rose before.writes after.writes)
  pub prints : ¬ (Rose sink_before.faults sink_after.faults)

-- the two files are those of the case, which has at most 4,096 rows
pub record MakeCase (files : Files) (names : FileNames) (case : Case) : Type 0 where
  pub inputs : AreInputs files names.network names.currents case.study case.currents
  pub few_rows : length (rows_in case) ≤ 4096

-- the file is a sheet of the case, and the settings that it gives lie in the first box
pub record IsSheetOf (files : Files) (name : List ℕ) (case : Case) : Type 0 where
  pub settings : Option Settings
  pub gives : GivesSettings files name case settings
  pub fits : (given : Option Settings) → GivesSettings files name case given
      → FitFirstBox case given

-- the file is the text of a certificate of the case that is right, and is within its limit
pub record IsRightFile (files : Files) (name : List ℕ) (case : Case) : Type 0 where
  pub bytes : List ℕ
  pub cert : CertData
  pub is : held files name ≡ Some bytes
  pub within : length bytes ≤ most_bytes_of file.Cert
  pub text : IsTextOf cert bytes
  pub right : IsRight case cert
