-- How far the lines of a certificate have come (ours).
use Rattle.std.specs.Prelude.{◌≡◌, ◌≢◌, ℕ, ◌+◌, ◌≤◌, Option, List, [], ◌∷◌, ◌++◌, codes, length, map}
use Rattle.std.specs.List.{AllByRecursion}
use Rattle.coord_model.specs.Choice.{Settings}
use Rattle.coord_model.specs.Tree.{Single}
use Rattle.cert_text.specs.CertData.{AreIssued, CertData, IsCert, IsHead}
use Rattle.cert_text.specs.CertText.{cert_lines, head_lines, settings_line}
use Rattle.cert_text.specs.DueNodes.{Leads}
use Rattle.cert_text.specs.HeadScan.{HeadTo}
use Rattle.cert_text.specs.Nodes.{IsNode, node_line}
use Rattle.cert_text.specs.declared.kinds.CertHead.{CertHead}
use Rattle.cert_text.specs.declared.kinds.CertKind.{CertKind}
use Rattle.cert_text.specs.declared.kinds.CertKind.TheVariants as kind

-- these lines begin a certificate
pub record Begins (lines : List (List ℕ)) : Type 0 where
  pub cert : CertData
  pub is : IsCert cert
  pub more : List (List ℕ)
  pub parts : cert_lines cert ≡ lines ++ more

-- what a scan of lines knows: the kind of line that is due, the head and the settings, and how many splits stand above
-- each due node, the next one first
pub record State : Type 0 where
  pub due : CertKind
  pub head : CertHead
  pub settings : Option Settings
  pub dues : List ℕ
  pub taken : ℕ

-- the lines of the head, the settings and some nodes
abbrev pub lines_with : State → List Single → List (List ℕ)
lines_with s nodes = head_lines s.head ++ settings_line s.settings ∷ map node_line nodes

-- the lines of the head, the settings and some nodes are read, which lead to the due nodes
pub record NodesTo (s : State) (lines : List (List ℕ)) : Type 0 where
  pub is : IsHead s.head
  pub issued : AreIssued s.head.cost s.settings
  pub nodes : List Single
  pub each : AllByRecursion IsNode nodes
  pub leads : Leads (0 ∷ []) nodes s.dues
  pub count : length nodes ≡ s.taken
  pub room : s.taken + length s.dues ≤ 400001
  pub parts : lines ≡ lines_with s nodes

-- all lines of a certificate are read, `end` after its nodes
pub record ReadWhole (s : State) (lines : List (List ℕ)) : Type 0 where
  pub cert : CertData
  pub is : IsCert cert
  pub head : s.head ≡ cert.head
  pub settings : s.settings ≡ cert.settings
  pub text : lines ≡ cert_lines cert
  pub before : List (List ℕ)
  pub read : NodesTo s before
  pub none : s.dues ≡ []
  pub parts : lines ≡ before ++ codes "end" ∷ []

-- the scan is here once these lines are read
abbrev pub ReachedAt : CertKind → State → List (List ℕ) → Type 0
ReachedAt kind.Node s lines = NodesTo s lines × (s.dues ≢ [])
ReachedAt kind.End s lines = NodesTo s lines × (s.dues ≡ [])
ReachedAt kind.After s lines = ReadWhole s lines
ReachedAt due s lines = HeadTo due lines s.head

abbrev pub Reached : State → List (List ℕ) → Type 0
Reached s lines = ReachedAt s.due s lines
