-- What a check of a certificate's file answers, and when (ours).
use Rattle.std.specs.Prelude.{◌≡◌, ℕ, ◌≤◌, ⊤, List, Some, Result, Ok, Err, length}
use Rattle.coord_io.specs.Faults.{Rose}
use Rattle.coord_io.specs.Files.{IsLonger, held}
use Rattle.coord_io.specs.Outside.{FolderState, IsMissing, Told}
use Rattle.margin_rows.specs.Case.{Case}
use Rattle.cert_check.specs.Accepted.{Answers}
use Rattle.cert_check.specs.Streams.{Reads}
use Rattle.cert_check.specs.declared.claim.Claim.{Claim}
use Rattle.cert_check.specs.declared.refusal.CheckRefusal.{CheckRefusal}
use Rattle.cert_check.specs.declared.refusal.CheckRefusal.TheVariants as no
use Rattle.cert_check.specs.declared.stream.TextCheck.{TextCheck}

-- the file was read to its end, and is within the limit
pub record IsWhole (name : List ℕ) (before after : FolderState) (bytes : List ℕ) : Type 0 where
  pub file : Told before after (λ m. held m name ≡ Some bytes)
  pub within : length bytes ≤ 536870912

-- the file was read to its end, and this is answered of its bytes
pub record AnswersWhole (case : Case) (name : List ℕ) (before after : FolderState)
    (result : Result Claim CheckRefusal) : Type 0 where
  pub bytes : List ℕ
  pub whole : IsWhole name before after bytes
  pub answer : Answers case bytes result

-- the reading ended before the end of the file, for this cause
abbrev pub IsStopped : List ℕ → FolderState → FolderState → CheckRefusal → Type 0
IsStopped name before after no.Missing = IsMissing name before after
IsStopped name before after no.ReadFault = Rose before.reads after.reads
IsStopped name before after (no.TooLong limit) =
    (limit ≡ 536870912) × Told before after (λ m. IsLonger m name limit)
IsStopped name before after _ = ⊥

-- what is answered of a file: why the reading ended early, or what its bytes are
abbrev pub Checks : Case → List ℕ → FolderState → FolderState → Result Claim CheckRefusal → Type 0
Checks case name before after (Ok claim) = AnswersWhole case name before after (Ok claim)
Checks case name before after (Err no.Missing) = IsStopped name before after no.Missing
Checks case name before after (Err no.ReadFault) = IsStopped name before after no.ReadFault
Checks case name before after (Err (no.TooLong limit)) =
    IsStopped name before after (no.TooLong limit)
Checks case name before after (Err no.NoMemory) = ⊤
Checks case name before after (Err refusal) = AnswersWhole case name before after (Err refusal)

-- the file was read to its end, as the text
pub record HasRead (case : Case) (name : List ℕ) (before after : FolderState)
    (text : TextCheck) : Type 0 where
  pub bytes : List ℕ
  pub whole : IsWhole name before after bytes
  pub reads : Reads case text bytes text.lines.fault
