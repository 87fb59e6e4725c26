-- How far the lines of a certificate's head have come (ours).
use Rattle.std.specs.Prelude.{◌≡◌, ℕ, ⊤, IsSome, List, [], ◌∷◌, ◌++◌, codes}
use Rattle.cert_text.specs.CertData.{IsHead}
use Rattle.cert_text.specs.CertText.{head_lines, opening, ending_line, gap_line, budget_line, boxes_line, bound_line}
use Rattle.cert_text.specs.declared.kinds.CertHead.{CertHead}
use Rattle.cert_text.specs.declared.kinds.CertKind.{CertKind}
use Rattle.cert_text.specs.declared.kinds.CertKind.TheVariants as kind

-- the lines of a head before the one of this kind
abbrev pub lines_to : CertKind → CertHead → List (List ℕ)
lines_to kind.Format head = []
lines_to kind.Study head = codes "coord-certificate 2" ∷ []
lines_to kind.Ending head = opening head.study
lines_to kind.Gap head = opening head.study ++ ending_line head.ending ∷ []
lines_to kind.Budget head = opening head.study ++ ending_line head.ending ∷ gap_line head.gap ∷ []
lines_to kind.Boxes head = opening head.study ++ ending_line head.ending ∷ gap_line head.gap ∷ budget_line head.budget ∷ []
lines_to kind.Bound head =
    opening head.study ++ ending_line head.ending ∷ gap_line head.gap ∷ budget_line head.budget ∷ boxes_line head.boxes ∷ []
lines_to kind.Cost head =
    opening head.study
    ++ ending_line head.ending ∷ gap_line head.gap ∷ budget_line head.budget ∷ boxes_line head.boxes ∷ bound_line head.bound ∷ []
lines_to kind.Settings head = head_lines head
lines_to kind.Node head = head_lines head
lines_to kind.End head = head_lines head
lines_to kind.After head = head_lines head

-- the kind is one of a line up to the settings
abbrev pub IsFront : CertKind → Type 0
IsFront kind.Node = ⊥
IsFront kind.End = ⊥
IsFront kind.After = ⊥
IsFront _ = ⊤

-- the kind is one of a line before the settings
abbrev pub IsHeadKind : CertKind → Type 0
IsHeadKind kind.Settings = ⊥
IsHeadKind kind.Node = ⊥
IsHeadKind kind.End = ⊥
IsHeadKind kind.After = ⊥
IsHeadKind _ = ⊤

-- the study is given at its line
abbrev pub HasStudyAt : CertKind → CertHead → Type 0
HasStudyAt kind.Study head = IsSome head.study
HasStudyAt _ head = ⊤

-- These lines of a head are read, and one of this kind is due. What no line has said yet has a value that may come.
pub record HeadTo (due : CertKind) (lines : List (List ℕ)) (head : CertHead) : Type 0 where
  pub is : IsHead head
  pub study : HasStudyAt due head
  pub parts : lines ≡ lines_to due head
