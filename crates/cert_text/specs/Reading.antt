-- What is read of a certificate (ours): lines that a scan has taken, and the tree that has grown from them.
use Rattle.std.specs.Prelude.{◌≡◌, ℕ, ◌+◌, ⊤, false, List, [], ◌∷◌, ◌++◌, codes, length}
use Rattle.std.specs.List.{AllByRecursion}
use Rattle.coord_model.specs.Tree.{Single}
use Rattle.coord_text.specs.Claims.{text_of}
use Rattle.coord_text.specs.Lines.{IsLine}
use Rattle.cert_text.specs.Growth.{nodes_grown}
use Rattle.cert_text.specs.Nodes.{IsNode}
use Rattle.cert_text.specs.ScanState.{state_of}
use Rattle.cert_text.specs.Scanning.{Begins, Reached, State, lines_with}
use Rattle.cert_text.specs.declared.kinds.CertKind.{CertKind}
use Rattle.cert_text.specs.declared.kinds.CertKind.TheVariants as kind
use Rattle.cert_text.specs.declared.reading.Reading.{Reading}
use Rattle.cert_text.specs.declared.refusal.CertRefusal.{CertRefusal}
use Rattle.cert_text.specs.declared.refusal.CertRefusal.TheVariants.{Fault, NoMemory}

-- the lines are those of the head, the settings and these nodes
pub record AreWith (s : State) (lines : List (List ℕ)) (nodes : List Single) : Type 0 where
  pub parts : lines ≡ lines_with s nodes
  pub each : AllByRecursion IsNode nodes

-- and the last line
pub record AreWithEnd (s : State) (lines : List (List ℕ)) (nodes : List Single) : Type 0 where
  pub before : List (List ℕ)
  pub are : AreWith s before nodes
  pub parts : lines ≡ before ++ codes "end" ∷ []

-- the nodes that the lines have, if a line of this kind is due
abbrev pub HaveNodes : CertKind → State → List (List ℕ) → List Single → Type 0
HaveNodes kind.Node s lines nodes = AreWith s lines nodes
HaveNodes kind.End s lines nodes = AreWith s lines nodes
HaveNodes kind.After s lines nodes = AreWithEnd s lines nodes
HaveNodes _ s lines nodes = nodes ≡ []

-- these lines are taken, and the tree has grown from them
pub record HasTaken (reading : Reading) (lines : List (List ℕ)) : Type 0 where
  pub going : reading.scan.refused ≡ false
  pub reached : Reached (state_of reading.scan) lines
  pub nodes : HaveNodes reading.scan.due (state_of reading.scan) lines (nodes_grown reading.tree)

-- the line with this number is refused; want of memory says nothing
abbrev pub IsLineRefusal : Reading → ℕ → List ℕ → CertRefusal → Type 0
IsLineRefusal before number line (Fault at due) =
    (at ≡ number) × (due ≡ before.scan.due)
    × ((lines : List (List ℕ)) → HasTaken before lines → ¬ Begins (lines ++ line ∷ []))
IsLineRefusal before number line NoMemory = ⊤

-- the lines before one with this number are taken, and these bytes are left
pub record HasRead (bytes : List ℕ) (reading : Reading) (next : ℕ) (left : List ℕ) : Type 0 where
  pub lines : List (List ℕ)
  pub each : AllByRecursion IsLine lines
  pub parts : bytes ≡ text_of lines ++ left
  pub number : next ≡ length lines + 1
  pub taken : HasTaken reading lines

-- all lines are taken, and they are those of a certificate
pub record HasReadWhole (bytes : List ℕ) (reading : Reading) : Type 0 where
  pub lines : List (List ℕ)
  pub parts : bytes ≡ text_of lines
  pub taken : HasTaken reading lines
  pub whole : reading.scan.due ≡ kind.After
