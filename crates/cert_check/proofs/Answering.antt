-- From what is answered of bytes to what is answered of a file.
use Rattle.std.specs.Prelude.{Result, Ok, Err, Some, IsErrOf}
use Rattle.std.proofs.Common.{◌≡◌, ℕ, List, subst}
use Rattle.coord_io.specs.Files.{Files, held}
use Rattle.coord_io.specs.Outside.{FolderState, Told}
use Rattle.margin_rows.specs.Case.{Case}
use Rattle.cert_check.specs.Accepted.{Answers}
use Rattle.cert_check.specs.Checking.{Checks, IsWhole}
use Rattle.cert_check.specs.declared.claim.Claim.{Claim}
use Rattle.cert_check.specs.declared.refusal.CheckRefusal.{CheckRefusal}
use Rattle.cert_check.specs.declared.refusal.CheckRefusal.TheVariants as no

module _ (case : Case) (name : List ℕ) (before after : FolderState) where
  -- a file that was read whole
  pub answered : (bytes : List ℕ) (result : Result Claim CheckRefusal) → IsWhole name before after bytes → Answers case bytes result → Checks case name before after result
  answered bytes (Ok claim) whole is = record { bytes = bytes; whole = whole; answer = is }
  answered bytes (Err (no.Cert line kind)) whole is = record { bytes = bytes; whole = whole; answer = is }
  answered bytes (Err (no.Tree number kind)) whole is = record { bytes = bytes; whole = whole; answer = is }
  answered bytes (Err (no.Claim kind)) whole is = record { bytes = bytes; whole = whole; answer = is }
  answered bytes (Err no.Missing) whole is = absurd is
  answered bytes (Err no.ReadFault) whole is = absurd is
  answered bytes (Err (no.TooLong limit)) whole is = absurd is
  answered bytes (Err no.NoMemory) whole is = tt

-- want of memory is never answered
pub no_memory : (case : Case) (bytes : List ℕ) (result : Result Claim CheckRefusal) → Answers case bytes result → ¬ (IsErrOf result no.NoMemory)
no_memory case bytes (Ok claim) is err = absurd (cc err)
no_memory case bytes (Err refusal) is err = let same : refusal ≡ no.NoMemory = cc err in subst (λ (r : CheckRefusal). Answers case bytes (Err r)) same is

-- what is told of the file of a folder that tells its files
told_of : (before after : FolderState) (files later : Files) (P : Files → Type 0) → before.files ≡ Some files → after.files ≡ Some later → Told before after P → P files
told_of before after files later P is will told =
    let came = told.came later will in
    let same : came.0 ≡ files = cc (came.1, is) in
    subst P same came.2

-- the bytes that were read are those of the file
pub bytes_read : (name : List ℕ) (before after : FolderState) (files later : Files) (bytes read : List ℕ) → before.files ≡ Some files → after.files ≡ Some later → held files name ≡ Some bytes
    → IsWhole name before after read → bytes ≡ read
bytes_read name before after files later bytes read is will has whole =
    let there = told_of before after files later (λ m. held m name ≡ Some read) is will whole.file in
    cc (has, there)
