-- What a printer of a certificate has still to print (ours).
use Rattle.std.specs.Prelude.{◌≡◌, ℕ, Option, Some, None, List, [], ◌∷◌, codes}
use Rattle.coord_model.specs.declared.cert.StudyHead.{StudyHead}
use Rattle.coord_text.specs.Claims.{ended}
use Rattle.cert_text.specs.CertData.{CertData}
use Rattle.cert_text.specs.CertText.{settings_line, study_line, ending_line, gap_line, budget_line, boxes_line, bound_line, cost_line}
use Rattle.cert_text.specs.declared.kinds.CertKind.{CertKind}
use Rattle.cert_text.specs.declared.kinds.CertKind.TheVariants as kind

-- the first line, and that of the study where there is one
abbrev pub first_line : Option StudyHead → List ℕ
first_line None = codes "coord-certificate 1"
first_line (Some study) = codes "coord-certificate 2"

abbrev pub study_words : Option StudyHead → List ℕ
study_words None = []
study_words (Some study) = study_line study

-- the line of a kind up to the settings
abbrev pub front_line : CertKind → CertData → List ℕ
front_line kind.Format cert = first_line cert.head.study
front_line kind.Study cert = study_words cert.head.study
front_line kind.Ending cert = ending_line cert.head.ending
front_line kind.Gap cert = gap_line cert.head.gap
front_line kind.Budget cert = budget_line cert.head.budget
front_line kind.Boxes cert = boxes_line cert.head.boxes
front_line kind.Bound cert = bound_line cert.head.bound
front_line kind.Cost cert = cost_line cert.head.cost
front_line _ cert = settings_line cert.settings

-- the kind that follows the first line, and the one that follows each kind up to the settings
abbrev pub second_kind : Option StudyHead → CertKind
second_kind None = kind.Ending
second_kind (Some study) = kind.Study

abbrev pub following : CertKind → Option StudyHead → CertKind
following kind.Format study = second_kind study
following kind.Study study = kind.Ending
following kind.Ending study = kind.Gap
following kind.Gap study = kind.Budget
following kind.Budget study = kind.Boxes
following kind.Boxes study = kind.Bound
following kind.Bound study = kind.Cost
following kind.Cost study = kind.Settings
following _ study = kind.Node

-- the line that was printed last, with its line feed, and the lines still to come
pub record Print : Type 0 where
  pub piece : List ℕ
  pub left : List (List ℕ)

-- a printer has given a line with its line feed
pub record Prints (before : List (List ℕ)) (piece : List ℕ) (after : List (List ℕ)) : Type 0 where
  pub line : List ℕ
  pub first : before ≡ line ∷ after
  pub whole : piece ≡ ended line
