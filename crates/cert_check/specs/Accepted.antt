-- What is answered of a certificate's bytes, and when (ours).
use Rattle.std.specs.Prelude.{◌≡◌, ℕ, List, Option, Some, None, Result, Ok, Err, IfSome}
use Rattle.coord_model.specs.Allowed.{IsAllowed}
use Rattle.coord_model.specs.Choice.{Settings}
use Rattle.coord_model.specs.Cost.{CostsAtMost, IsBelowAll}
use Rattle.cert_text.specs.CertData.{CertData}
use Rattle.cert_tree.specs.Holding.{Fails}
use Rattle.cert_tree.specs.declared.kind.NodeKind.{NodeKind}
use Rattle.margin_rows.specs.Box.{Box, IsFirstBox}
use Rattle.margin_rows.specs.Case.{Case}
use Rattle.cert_check.specs.ClaimFaults.{IsFirstClaimFault}
use Rattle.cert_check.specs.Claims.{IfPrinted}
use Rattle.cert_check.specs.Rightness.{HoldsWith, IsRight, IsTextOf, claim_of}
use Rattle.cert_text.specs.Stops.{StopsAt}
use Rattle.cert_check.specs.TreeGives.{found_of}
use Rattle.cert_check.specs.declared.claim.Claim.{Claim}
use Rattle.cert_check.specs.declared.kind.ClaimKind.{ClaimKind}
use Rattle.cert_check.specs.declared.refusal.CheckRefusal.{CheckRefusal}
use Rattle.cert_check.specs.declared.refusal.CheckRefusal.TheVariants as no

-- with a bound, all allowed settings cost at least that; with none, no settings are allowed
abbrev pub BoundsAll : Case → Option ℕ → Type 0
BoundsAll case (Some bound) = IsBelowAll case.study case.currents bound
BoundsAll case None = (settings : Settings) → ¬ (IsAllowed case.study case.currents settings)

-- the bytes are the text of a certificate that is right and makes this claim; printed settings are allowed and cost at
-- most the printed cost
pub record IsAccepted (case : Case) (bytes : List ℕ) (claim : Claim) : Type 0 where
  pub cert : CertData
  pub text : IsTextOf cert bytes
  pub right : IsRight case cert
  pub claim_is : claim ≡ claim_of cert.head
  pub allowed : IfSome cert.settings (IsAllowed case.study case.currents)
  pub at_most : IfPrinted cert.settings cert.head.cost (CostsAtMost case.study case.currents)

-- the bytes are the text of a certificate whose tree fails at this node
pub record HasTreeFault (case : Case) (bytes : List ℕ) (number : ℕ) (kind : NodeKind) : Type 0 where
  pub cert : CertData
  pub text : IsTextOf cert bytes
  pub box : Box
  pub first : IsFirstBox case box
  pub fails : Fails case box cert.tree number kind

-- the bytes are the text of a certificate whose tree holds and whose claim has this first fault
pub record HasClaimFault (case : Case) (bytes : List ℕ) (kind : ClaimKind) : Type 0 where
  pub cert : CertData
  pub text : IsTextOf cert bytes
  pub bound : Option ℕ
  pub holds : HoldsWith case cert bound
  pub fault : IsFirstClaimFault case cert.head cert.settings
      (found_of cert.tree bound cert.head) kind

-- what is answered of bytes that were read to their end
abbrev pub Answers : Case → List ℕ → Result Claim CheckRefusal → Type 0
Answers case bytes (Ok claim) = IsAccepted case bytes claim
Answers case bytes (Err (no.Cert line kind)) = StopsAt bytes line kind
Answers case bytes (Err (no.Tree number kind)) = HasTreeFault case bytes number kind
Answers case bytes (Err (no.Claim kind)) = HasClaimFault case bytes kind
Answers case bytes (Err refusal) = ⊥
