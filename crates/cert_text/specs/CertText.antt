-- The lines and the text of a certificate (ours): its head, its settings, its nodes in pre-order, and `end`.
use Rattle.std.specs.Prelude.{ℕ, ◌≤◌, Option, Some, None, List, [], ◌∷◌, ◌++◌, codes, length, map}
use Rattle.std.specs.Fmt.{decimal}
use Rattle.coord_model.specs.Choice.{Settings}
use Rattle.coord_model.specs.Tree.{nodes_of}
use Rattle.coord_model.specs.declared.choice.Ending.{Ending}
use Rattle.coord_model.specs.declared.cert.StudyHead.{StudyHead}
use Rattle.coord_text.specs.Claims.{amount, ending_word, text_of}
use Rattle.cert_text.specs.CertData.{CertData, IsCert}
use Rattle.cert_text.specs.Nodes.{node_line, pair_word}
use Rattle.cert_text.specs.declared.kinds.CertHead.{CertHead}

-- the line of the study: the format of its file, its relays and its rows
abbrev pub study_line : StudyHead → List ℕ
study_line study = codes "study " ++ (decimal study.format ++ 32 ∷ (decimal study.relays ++ 32 ∷ decimal study.rows))

-- the lines before that of the ending
abbrev pub opening : Option StudyHead → List (List ℕ)
opening None = codes "coord-certificate 1" ∷ []
opening (Some study) = codes "coord-certificate 2" ∷ study_line study ∷ []

-- the lines with one value
abbrev pub ending_line : Ending → List ℕ
ending_line ending = codes "ending " ++ ending_word ending

abbrev pub gap_line : ℕ → List ℕ
gap_line gap = codes "gap " ++ decimal gap

abbrev pub budget_line : ℕ → List ℕ
budget_line budget = codes "budget " ++ decimal budget

abbrev pub boxes_line : ℕ → List ℕ
boxes_line boxes = codes "boxes " ++ decimal boxes

abbrev pub bound_line : Option ℕ → List ℕ
bound_line bound = codes "bound " ++ amount bound

abbrev pub cost_line : Option ℕ → List ℕ
cost_line cost = codes "cost " ++ amount cost

-- the words of the settings, each after a space
abbrev pub step_words : List ℕ → List ℕ → List ℕ
step_words [] dials = []
step_words (pickup ∷ pickups) [] = []
step_words (pickup ∷ pickups) (dial ∷ dials) = 32 ∷ (pair_word pickup dial ++ step_words pickups dials)

abbrev pub settings_line : Option Settings → List ℕ
settings_line None = codes "settings none"
settings_line (Some settings) = codes "settings" ++ step_words settings.pickup settings.dial

-- the lines before the settings
abbrev pub head_lines : CertHead → List (List ℕ)
head_lines head =
    opening head.study
    ++ (ending_line head.ending ∷ gap_line head.gap ∷ budget_line head.budget ∷ boxes_line head.boxes
    ∷ bound_line head.bound ∷ cost_line head.cost ∷ [])

-- the lines of a certificate, and its text
abbrev pub cert_lines : CertData → List (List ℕ)
cert_lines cert =
    head_lines cert.head ++ settings_line cert.settings ∷ (map node_line (nodes_of cert.tree) ++ codes "end" ∷ [])

abbrev pub cert_text : CertData → List ℕ
cert_text cert = text_of (cert_lines cert)

-- the text of each certificate has at most 512 MiB
abbrev pub TextsFit : Type 0
TextsFit = (cert : CertData) → IsCert cert → length (cert_text cert) ≤ 536870912
