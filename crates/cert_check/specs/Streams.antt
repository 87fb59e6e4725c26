-- What is known of a certificate while its bytes come in (ours).
use Rattle.std.specs.Prelude.{◌≡◌, ℕ, false, Option, Some, None, List, [], ◌∷◌, ◌++◌, length}
use Rattle.std.specs.List.{AllByRecursion}
use Rattle.coord_model.specs.Tree.{Single}
use Rattle.coord_text.specs.Claims.{text_of}
use Rattle.cert_text.specs.Nodes.{IsNode}
use Rattle.cert_text.specs.ScanState.{state_of}
use Rattle.cert_text.specs.Scanning.{Reached}
use Rattle.margin_rows.specs.Box.{Box, IsFirstBox}
use Rattle.margin_rows.specs.Case.{Case}
use Rattle.cert_check.specs.OpenLines.{IsLeft}
use Rattle.cert_check.specs.Seen.{AreNodes, Saw}
use Rattle.cert_check.specs.BadLines.{HasBadLine, IsBadLine}
use Rattle.cert_check.specs.declared.lines.LineCheck.{LineCheck}
use Rattle.cert_check.specs.declared.lines.LineFault.{LineFault}
use Rattle.cert_check.specs.declared.stream.TextCheck.{TextCheck}

-- the lines begin a certificate, whose nodes were seen from the first box on
pub record Goes (case : Case) (check : LineCheck) (lines : List (List ℕ)) : Type 0 where
  pub accepts : check.scan.refused ≡ false
  pub reached : Reached (state_of check.scan) lines
  pub taken : check.taken ≡ length lines
  pub box : Box
  pub first : IsFirstBox case box
  pub nodes : List Single
  pub each : AllByRecursion IsNode nodes
  pub are : AreNodes check.scan.due nodes lines
  pub saw : Saw case box check.nodes.walk check.nodes.fault nodes

-- a line more goes on, or is the bad one
abbrev pub GoesOrStops : Case → LineCheck → List (List ℕ) → List ℕ → Option LineFault → Type 0
GoesOrStops case check lines line None = Goes case check (lines ++ line ∷ [])
GoesOrStops case check lines line (Some fault) = IsBadLine lines line fault.line fault.kind

-- the bytes so far are lines that go on, and what is left of them stands in the room
pub record GoesWith (case : Case) (check : TextCheck) (read : List ℕ) : Type 0 where
  pub lines : List (List ℕ)
  pub left : List ℕ
  pub parts : read ≡ text_of lines ++ left
  pub room : IsLeft check.room left
  pub goes : Goes case check.lines lines

-- so far the bytes go on, or have a bad line
abbrev pub Reads : Case → TextCheck → List ℕ → Option LineFault → Type 0
Reads case check read None = GoesWith case check read
Reads case check read (Some fault) = HasBadLine read fault.line fault.kind
