-- What `check` does (ours): it reads the two files, and believes a certificate of their case only after trying all of it.
use Rattle.std.specs.Prelude.{◌≡◌, ◌⊎◌, ℕ, ◌<◌, ⊤, Ok, Err, List, [], ◌++◌, codes, length}
use Rattle.std.specs.Fmt.{decimal}
use Rattle.cert_check.specs.Accepted.{BoundsAll}
use Rattle.cert_check.specs.Checking.{AnswersWhole}
use Rattle.cert_check.specs.declared.claim.Claim.{Claim}
use Rattle.cert_check.specs.declared.kind.ClaimKind.{ClaimKind}
use Rattle.cert_check.specs.declared.kind.ClaimKind.TheVariants as claim
use Rattle.cert_check.specs.declared.refusal.CheckRefusal.{CheckRefusal}
use Rattle.cert_check.specs.declared.refusal.CheckRefusal.TheVariants as no
use Rattle.coord_io.specs.Outside.{FolderState, SinkState}
use Rattle.coord_run.specs.Causes.{CaseCause, FileCause}
use Rattle.coord_run.specs.End.{Ends, OutputData}
use Rattle.coord_run.specs.Inputs.{ReadsCase}
use Rattle.coord_run.specs.RowLine.{fault_name, relay_name}
use Rattle.coord_words.specs.SolveWords.{FileNames}
use Rattle.coord_run.specs.declared.claim_fault.ClaimFault.{ClaimFault}
use Rattle.coord_run.specs.declared.claim_fault.ClaimFault.TheVariants.{Study, Relays, Step, Row, Cost, Boxes, Bound, Gap, EndingIs}
use Rattle.coord_run.specs.declared.refusal.File.TheVariants as file
use Rattle.coord_run.specs.declared.refusal.Refusal.{Refusal}
use Rattle.coord_run.specs.declared.refusal.Refusal.TheVariants.{CertClaim, CertLine, CertNode, Missing, ReadFault, TooLong}
use Rattle.coord_text.specs.Claims.{amount, ending_word}
use Rattle.margin_rows.specs.Case.{Case, row_at, rows_in}

-- the case has the relay or the row that the fault of a claim is about
abbrev pub IsAbout : Case → ClaimKind → Type 0
IsAbout case (claim.Step relay) = relay < length case.study.relays
IsAbout case (claim.Row row) = row < length (rows_in case)
IsAbout case _ = ⊤

-- the fault of a claim, with names in place of numbers
abbrev pub claim_fault : Case → ClaimKind → ClaimFault
claim_fault case (claim.Study printed found) = Study printed found
claim_fault case (claim.Relays printed found) = Relays printed found
claim_fault case (claim.Step relay) = Step (relay_name case.study relay)
claim_fault case (claim.Row row) =
    Row (row_at case row).kind (fault_name case.study (row_at case row).fault) (relay_name case.study (row_at case row).backup)
    (relay_name case.study (row_at case row).primary)
claim_fault case (claim.Cost printed found) = Cost printed found
claim_fault case (claim.Boxes printed found) = Boxes printed found
claim_fault case (claim.Bound printed found) = Bound printed found
claim_fault case (claim.Gap printed least) = Gap printed least
claim_fault case (claim.EndingIs printed found) = EndingIs printed found

-- how the refusal of a certificate is printed; want of memory is none
abbrev pub IsCertRefusal : Case → CheckRefusal → Refusal → Type 0
IsCertRefusal case no.Missing refusal = refusal ≡ Missing file.Cert
IsCertRefusal case no.ReadFault refusal = refusal ≡ ReadFault file.Cert
IsCertRefusal case (no.TooLong limit) refusal = refusal ≡ TooLong file.Cert
IsCertRefusal case (no.Cert line kind) refusal = refusal ≡ CertLine line kind
IsCertRefusal case (no.Tree number kind) refusal = refusal ≡ CertNode number kind
IsCertRefusal case (no.Claim kind) refusal = refusal ≡ CertClaim (claim_fault case kind)
IsCertRefusal case no.NoMemory refusal = ⊥

-- why the file of this name is refused as a certificate of the case
abbrev pub CertCause : FolderState → FolderState → List ℕ → Case → Refusal → Type 0
CertCause before after name case refusal =
    FileCause before after name file.Cert refusal
    ⊎ ((found : CheckRefusal) × AnswersWhole case name before after (Err found) × IsCertRefusal case found refusal)

-- why `check` refuses: the two files make no case, or the certificate is none of it
abbrev pub CheckCause : FileNames → FolderState → FolderState → Refusal → Type 0
CheckCause names before after refusal =
    CaseCause before after names.network names.currents refusal
    ⊎ ReadsCase before after names.network names.currents (λ case. CertCause before after names.cert case refusal)

-- the line of a certificate that is accepted
unfoldable pub accepted_text : Claim → List ℕ
accepted_text claim =
    codes "accepted " ++ ending_word claim.ending ++ codes " cost " ++ amount claim.cost ++ codes " bound " ++ amount claim.bound
    ++ codes " boxes " ++ decimal claim.boxes ++ codes "\n"

-- the text tells the claim of the certificate of this name, which is right; its bound is below all, whatever the folder tells
pub record IsCheckOf (before after : FolderState) (name : List ℕ) (case : Case) (text : List ℕ) : Type 0 where
  pub claim : Claim
  pub accepted : AnswersWhole case name before after (Ok claim)
  pub below_all : BoundsAll case claim.bound
  pub is : text ≡ accepted_text claim

-- the output is the report on the three files
abbrev pub IsCheckOutput : FileNames → FolderState → FolderState → OutputData → Type 0
IsCheckOutput names before after output =
    ReadsCase before after names.network names.currents (λ case. IsCheckOf before after names.cert case output.report)
    × (output.files ≡ []) × (output.status ≡ 0)

-- `check` ends so
abbrev pub ReportsCheck : FileNames → FolderState → FolderState → SinkState → SinkState → ℕ → Type 0
ReportsCheck names before after sink_before sink_after status =
    Ends names (CheckCause names before after) (IsCheckOutput names before after) before after sink_before sink_after status
