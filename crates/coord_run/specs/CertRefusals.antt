-- The lines in which a certificate is refused (ours): at a line, at a node, or for its claim.
use Rattle.std.specs.Prelude.{ℕ, Option, Some, None, List, ◌++◌, codes}
use Rattle.std.specs.Fmt.{decimal}
use Rattle.cert_text.specs.declared.kinds.CertKind.{CertKind}
use Rattle.cert_text.specs.declared.kinds.CertKind.TheVariants as due
use Rattle.cert_tree.specs.declared.kind.NodeKind.{NodeKind}
use Rattle.cert_tree.specs.declared.kind.NodeKind.TheVariants.{RowNumber, SplitRelay, NotEmpty, Emptied, NotVoid, ManyPickups, NotHair, SplitAt}
use Rattle.coord_model.specs.declared.cert.StudyHead.{StudyHead}
use Rattle.coord_model.specs.declared.choice.Ending.{Ending}
use Rattle.coord_run.specs.RowLine.{row_names}
use Rattle.coord_run.specs.declared.claim_fault.ClaimFault.{ClaimFault}
use Rattle.coord_run.specs.declared.claim_fault.ClaimFault.TheVariants.{Study, Relays, Step, Row, Cost, Boxes, Bound, Gap, EndingIs}
use Rattle.coord_text.specs.Claims.{amount, ending_word}

-- what is due at a line of a certificate
abbrev pub cert_word : CertKind → List ℕ
cert_word due.Format = codes "format"
cert_word due.Study = codes "study"
cert_word due.Ending = codes "ending"
cert_word due.Gap = codes "gap"
cert_word due.Budget = codes "budget"
cert_word due.Boxes = codes "boxes"
cert_word due.Bound = codes "bound"
cert_word due.Cost = codes "cost"
cert_word due.Settings = codes "settings"
cert_word due.Node = codes "node"
cert_word due.End = codes "end"
cert_word due.After = codes "after"

-- what is wrong with a node
abbrev pub node_word : NodeKind → List ℕ
node_word RowNumber = codes "row-number"
node_word SplitRelay = codes "split-relay"
node_word NotEmpty = codes "not-empty"
node_word Emptied = codes "emptied"
node_word NotVoid = codes "not-void"
node_word ManyPickups = codes "many-pickups"
node_word NotHair = codes "not-hair"
node_word SplitAt = codes "split-at"

-- a study's format, its relays and its rows, or `none`
unfoldable pub head_text : StudyHead → List ℕ
head_text head = decimal head.format ++ codes " " ++ decimal head.relays ++ codes " " ++ decimal head.rows

abbrev pub head_or_none : Option StudyHead → List ℕ
head_or_none None = codes "none"
head_or_none (Some head) = head_text head

-- an ending, or `none`
abbrev pub ending_or_none : Option Ending → List ℕ
ending_or_none None = codes "none"
ending_or_none (Some ending) = ending_word ending

-- what is printed of a thing, and what was found
unfoldable pub apart_text : List ℕ → List ℕ → List ℕ → List ℕ
apart_text thing printed found = thing ++ codes " printed " ++ printed ++ codes " found " ++ found

-- a gap, and the least gap
unfoldable pub least_text : ℕ → ℕ → List ℕ
least_text printed least = codes "gap printed " ++ decimal printed ++ codes " least " ++ decimal least

-- what is wrong with a claim
abbrev pub claim_text : ClaimFault → List ℕ
claim_text (Study printed found) = apart_text (codes "study") (head_or_none printed) (head_text found)
claim_text (Relays printed found) = apart_text (codes "relays") (decimal printed) (decimal found)
claim_text (Step relay) = codes "step " ++ relay
claim_text (Row kind fault backup primary) = row_names kind fault backup primary
claim_text (Cost printed found) = apart_text (codes "cost") (decimal printed) (decimal found)
claim_text (Boxes printed found) = apart_text (codes "boxes") (decimal printed) (decimal found)
claim_text (Bound printed found) = apart_text (codes "bound") (amount printed) (amount found)
claim_text (Gap printed least) = least_text printed least
claim_text (EndingIs printed found) = apart_text (codes "ending") (ending_word printed) (ending_or_none found)

-- the lines
unfoldable pub cert_line_text : ℕ → CertKind → List ℕ
cert_line_text line kind = codes "certificate: line " ++ decimal line ++ codes " " ++ cert_word kind ++ codes "\n"

unfoldable pub cert_node_text : ℕ → NodeKind → List ℕ
cert_node_text number kind = codes "certificate: node " ++ decimal number ++ codes " " ++ node_word kind ++ codes "\n"

unfoldable pub cert_claim_text : ClaimFault → List ℕ
cert_claim_text fault = codes "certificate: claim " ++ claim_text fault ++ codes "\n"
