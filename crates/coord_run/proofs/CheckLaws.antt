-- What `check` says of the folder before and after all three readings.
use Rattle.std.proofs.Common.{◌≡◌, inl, inr, ℕ, ◌≤◌, Option, Some, None, Result, Ok, Err, List, length, subst}
use Rattle.cert_check.specs.Accepted.{BoundsAll}
use Rattle.cert_check.specs.Checking.{AnswersWhole, Checks}
use Rattle.cert_check.specs.ClaimFaults.{IsFirstClaimFault, IsFirstOfSettings}
use Rattle.cert_check.specs.Claims.{IsPrintedAnd}
use Rattle.cert_check.specs.declared.claim.Claim.{Claim}
use Rattle.cert_check.specs.declared.found.Found.{Found}
use Rattle.cert_check.specs.declared.kind.ClaimKind.{ClaimKind}
use Rattle.cert_check.specs.declared.kind.ClaimKind.TheVariants as claim
use Rattle.cert_check.specs.declared.refusal.CheckRefusal.{CheckRefusal}
use Rattle.cert_check.specs.declared.refusal.CheckRefusal.TheVariants as no
use Rattle.cert_text.specs.declared.kinds.CertHead.{CertHead}
use Rattle.coord_io.specs.Files.{IsLonger, held}
use Rattle.coord_io.specs.Outside.{FolderState, IsReadAlone, Told}
use Rattle.coord_model.specs.Choice.{Settings}
use Rattle.coord_run.specs.Check.{CertCause, CheckCause, IsAbout, IsCertRefusal, IsCheckOf, accepted_text}
use Rattle.coord_run.specs.Inputs.{AreInputs, ReadsCase}
use Rattle.coord_run.specs.Stops.{StopsFor}
use Rattle.coord_words.specs.SolveWords.{FileNames}
use Rattle.coord_run.specs.declared.refusal.File.TheVariants as file
use Rattle.coord_run.specs.declared.refusal.Refusal.{Refusal}
use Rattle.coord_run.specs.declared.refusal.Stop.{Stop}
use Rattle.coord_run.proofs.ReadingLaws.{absent_of, file_last, of_case, stops_as, told_last}
use Rattle.margin_rows.specs.Case.{Case, rows_in}

-- what holds only of printed settings and a printed cost
printed : {P : Type 0} (Q : Settings → ℕ → Type 0) (settings : Option Settings) (cost : Option ℕ) → ((s : Settings) (n : ℕ) → Q s n → P)
    → IsPrintedAnd settings cost Q → P
printed Q (Some settings) (Some cost) of_both holds = of_both settings cost holds
printed Q (Some settings) None of_both holds = absurd holds
printed Q None cost of_both holds = absurd holds

-- the case has what the first fault of a claim is about
fault_about : (case : Case) (head : CertHead) (settings : Option Settings) (given : Found) (kind : ClaimKind)
    → IsFirstClaimFault case head settings given kind → IsAbout case kind
fault_about case head settings given (claim.Step relay) fault =
    printed (λ s n. IsFirstOfSettings case (claim.Step relay) s n) settings head.cost (λ s n is. is.1.in_study) fault.1
fault_about case head settings given (claim.Row row) fault =
    printed (λ s n. IsFirstOfSettings case (claim.Row row) s n) settings head.cost (λ s n is. is.1.is_row) fault.1
fault_about case head settings given (claim.Study printed found) fault = tt
fault_about case head settings given (claim.Relays printed found) fault = tt
fault_about case head settings given (claim.Cost printed found) fault = tt
fault_about case head settings given (claim.Boxes printed found) fault = tt
fault_about case head settings given (claim.Bound printed found) fault = tt
fault_about case head settings given (claim.Gap printed least) fault = tt
fault_about case head settings given (claim.EndingIs printed found) fault = tt

module _ (case : Case) (name : List ℕ) (before after : FolderState) where
  -- the case has what a claim is refused for
  pub refused_about : (found : CheckRefusal) → Checks case name before after (Err found) → (kind : ClaimKind) → found ≡ no.Claim kind → IsAbout case kind
  refused_about found checks kind is =
      let answers : AnswersWhole case name before after (Err (no.Claim kind)) = subst (λ f. Checks case name before after (Err f)) is checks in
      let fault = answers.answer in
      fault_about case fault.cert.head fault.cert.settings _ kind fault.fault

  -- why a certificate is refused
  cert_cause : (found : CheckRefusal) (refusal : Refusal) → Checks case name before after (Err found) → IsCertRefusal case found refusal
      → CertCause before after name case refusal
  cert_cause no.Missing refusal missing is = inl (inl (is, absent_of before after name missing))
  cert_cause no.ReadFault refusal rose is = inl (inr (inl (is, rose)))
  cert_cause (no.TooLong limit) refusal long is = inl (inr (inr (is, subst (λ most. Told before after (λ m. IsLonger m name most)) long.0 long.1)))
  cert_cause (no.Cert line kind) refusal answers is = inr (no.Cert line kind, answers, is)
  cert_cause (no.Tree number kind) refusal answers is = inr (no.Tree number kind, answers, is)
  cert_cause (no.Claim kind) refusal answers is = inr (no.Claim kind, answers, is)
  cert_cause no.NoMemory refusal checks is = absurd is

  pub cert_stops : (found : CheckRefusal) (stop : Stop) → Checks case name before after (Err found) → StopsFor stop (IsCertRefusal case found)
      → StopsFor stop (CertCause before after name case)
  cert_stops found stop checks = stops_as stop _ _ (λ refusal is. cert_cause found refusal checks is)

-- what is answered of a file, after an earlier reading
answers_last : (before between after : FolderState) (name : List ℕ) (case : Case) (result : Result Claim CheckRefusal) → IsReadAlone before between
    → AnswersWhole case name between after result → AnswersWhole case name before after result
answers_last before between after name case result first answers = record {
  bytes = answers.bytes;
  whole = record {
    file = told_last before between after (λ m. held m name ≡ Some answers.bytes) first.stay answers.whole.file;
    within = answers.whole.within;
  };
  answer = answers.answer;
}

-- why a certificate is refused, after an earlier reading
cert_last : (before between after : FolderState) (name : List ℕ) (case : Case) (refusal : Refusal) → IsReadAlone before between
    → CertCause between after name case refusal → CertCause before after name case refusal
cert_last before between after name case refusal first (inl unread) = inl (file_last before between after name file.Cert refusal first unread)
cert_last before between after name case refusal first (inr faulty) =
    inr (faulty.0, answers_last before between after name case (Err faulty.0) first faulty.1, faulty.2)

module _ (names : FileNames) (before between after : FolderState) (case : Case) (first : IsReadAlone before between) (later : IsReadAlone between after) (few_rows : length (rows_in case) ≤ 4096)
    (read : Told before between (λ m. AreInputs m names.network names.currents case.study case.currents)) where
  here : (P : Case → Type 0) → P case → ReadsCase before after names.network names.currents P
  here P = of_case before between after names.network names.currents case P later few_rows read

  -- a refusal of the certificate, after the reading of the two files
  pub third_read : (stop : Stop) → StopsFor stop (CertCause between after names.cert case) → StopsFor stop (CheckCause names before after)
  third_read stop = stops_as stop _ _ (λ refusal cause.
      inr (here (λ case. CertCause before after names.cert case refusal) (cert_last before between after names.cert case refusal first cause)))

  -- the report on a certificate that is accepted
  pub accepted_as : (found : Claim) (text : List ℕ) → AnswersWhole case names.cert between after (Ok found) → BoundsAll case found.bound → text ≡ accepted_text found
      → ReadsCase before after names.network names.currents (λ case. IsCheckOf before after names.cert case text)
  accepted_as found text accepted below_all is = here (λ case. IsCheckOf before after names.cert case text) (record {
    claim = found;
    accepted = answers_last before between after names.cert case (Ok found) first accepted;
    below_all = below_all;
    is = is;
  })
