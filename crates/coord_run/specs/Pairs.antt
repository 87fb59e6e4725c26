-- What `pairs` does (ours): it reads the network file and prints which relay backs which.
use Rattle.std.specs.Prelude.{◌≡◌, ℕ, List, [], ◌++◌, codes, length}
use Rattle.std.specs.Fmt.{decimal}
use Rattle.std.specs.List.{flat_map}
use Rattle.coord_model.specs.Pairs.{pairs_of}
use Rattle.coord_model.specs.StudyData.{StudyData}
use Rattle.coord_model.specs.declared.study.Pair.{Pair}
use Rattle.coord_run.specs.Causes.{NetworkCause}
use Rattle.coord_run.specs.End.{Ends, OutputData}
use Rattle.coord_run.specs.Inputs.{IsNetwork}
use Rattle.coord_io.specs.Outside.{FolderState, SinkState, Told}
use Rattle.coord_run.specs.RowLine.{relay_name}
use Rattle.coord_words.specs.Words.{only}

-- the line of a pair
unfoldable pub pair_text : List ℕ → List ℕ → List ℕ
pair_text primary backup = codes "primary " ++ primary ++ codes " backup " ++ backup ++ codes "\n"

-- the lines of pairs
abbrev pub pair_texts : StudyData → List Pair → List ℕ
pair_texts study = flat_map (λ pair. pair_text (relay_name study pair.primary) (relay_name study pair.backup))

-- a line with a count
unfoldable pub count_text : List ℕ → ℕ → List ℕ
count_text label n = label ++ decimal n ++ codes "\n"

-- the pairs of a study, and how many there are
abbrev pub pairs_text : StudyData → List ℕ
pairs_text study = pair_texts study (pairs_of study) ++ count_text (codes "pairs ") (length (pairs_of study))

-- the output is the report on the study of the network file of this name
abbrev pub IsPairsOutput : FolderState → FolderState → List ℕ → OutputData → Type 0
IsPairsOutput before after network output =
    (study : StudyData) × Told before after (λ m. IsNetwork m network study)
    × (output ≡ record { files = []; report = pairs_text study; status = 0 })

-- `pairs` ends so
abbrev pub ListsPairs : List ℕ → FolderState → FolderState → SinkState → SinkState → ℕ → Type 0
ListsPairs network before after sink_before sink_after status =
    Ends (only network) (NetworkCause before after network) (IsPairsOutput before after network) before after sink_before sink_after status
