-- A certificate that is right: its tree holds, and its claim agrees with what the tree and the settings give (ours).
use Rattle.std.specs.Prelude.{◌≡◌, ℕ, List, Option}
use Rattle.cert_text.specs.CertData.{CertData, IsCert}
use Rattle.cert_text.specs.CertText.{cert_text}
use Rattle.cert_text.specs.declared.kinds.CertHead.{CertHead}
use Rattle.cert_tree.specs.Holding.{Holds}
use Rattle.margin_rows.specs.Box.{Box, IsFirstBox}
use Rattle.margin_rows.specs.Case.{Case}
use Rattle.cert_check.specs.Claims.{Agrees}
use Rattle.cert_check.specs.TreeGives.{found_of}
use Rattle.cert_check.specs.declared.claim.Claim.{Claim}

-- the bytes are the text of this certificate
pub record IsTextOf (cert : CertData) (bytes : List ℕ) : Type 0 where
  pub is : IsCert cert
  pub text : bytes ≡ cert_text cert

-- the tree of the certificate holds at the first box, and gives this bound
pub record HoldsWith (case : Case) (cert : CertData) (bound : Option ℕ) : Type 0 where
  pub box : Box
  pub first : IsFirstBox case box
  pub holds : Holds case box cert.tree bound

-- the tree holds, and the claim agrees with what it gives
pub record IsRight (case : Case) (cert : CertData) : Type 0 where
  pub bound : Option ℕ
  pub holds : HoldsWith case cert bound
  pub agrees : Agrees case cert.head cert.settings (found_of cert.tree bound cert.head)

-- what a head claims
abbrev pub claim_of : CertHead → Claim
claim_of head = record {
  ending = head.ending;
  gap = head.gap;
  budget = head.budget;
  boxes = head.boxes;
  bound = head.bound;
  cost = head.cost;
}
