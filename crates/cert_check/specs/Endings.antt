-- What is known of a certificate when all its bytes have come in (ours).
use Rattle.std.specs.Prelude.{◌≡◌, ℕ, List}
use Rattle.coord_model.specs.Tree.{nodes_of}
use Rattle.coord_text.specs.Claims.{text_of}
use Rattle.cert_text.specs.CertData.{CertData}
use Rattle.cert_text.specs.ScanState.{settings_with}
use Rattle.cert_text.specs.declared.kinds.CertKind.TheVariants as kind
use Rattle.margin_rows.specs.Box.{Box, IsFirstBox}
use Rattle.margin_rows.specs.Case.{Case}
use Rattle.cert_check.specs.Rightness.{IsTextOf}
use Rattle.cert_check.specs.Streams.{Goes}
use Rattle.cert_check.specs.Seen.{Saw}
use Rattle.cert_check.specs.declared.lines.LineCheck.{LineCheck}

-- the bytes are lines that go on, and the last line of a certificate is among them
pub record EndsWhole (case : Case) (check : LineCheck) (bytes : List ℕ) : Type 0 where
  pub lines : List (List ℕ)
  pub text : bytes ≡ text_of lines
  pub goes : Goes case check lines
  pub last : check.scan.due ≡ kind.After

-- the bytes are the text of a certificate whose nodes were seen from the first box on
pub record SawCert (case : Case) (check : LineCheck) (bytes : List ℕ) : Type 0 where
  pub cert : CertData
  pub text : IsTextOf cert bytes
  pub last : check.scan.due ≡ kind.After
  pub head : check.scan.head ≡ cert.head
  pub settings : settings_with check.scan.head.cost check.scan.choice ≡ cert.settings
  pub box : Box
  pub first : IsFirstBox case box
  pub saw : Saw case box check.nodes.walk check.nodes.fault (nodes_of cert.tree)
