-- The lines of a certificate from one of them on (ours).
use Rattle.std.specs.Prelude.{ℕ, List, [], ◌∷◌, ◌++◌}
use Rattle.coord_model.specs.Tree.{Tree}
use Rattle.cert_text.specs.CertData.{CertData}
use Rattle.cert_text.specs.CertText.{opening, settings_line, ending_line, gap_line, budget_line, boxes_line, bound_line, cost_line}
use Rattle.cert_text.specs.Forests.{nodes_on}
use Rattle.cert_text.specs.Printing.{study_words}
use Rattle.cert_text.specs.declared.kinds.CertKind.{CertKind}
use Rattle.cert_text.specs.declared.kinds.CertKind.TheVariants as kind

-- the lines from those of the settings and of the cost on, where these trees are to come
abbrev pub settings_on : CertData → List Tree → List (List ℕ)
settings_on cert trees = settings_line cert.settings ∷ nodes_on trees

abbrev pub bound_on : CertData → List Tree → List (List ℕ)
bound_on cert trees = bound_line cert.head.bound ∷ cost_line cert.head.cost ∷ settings_on cert trees

-- and from those of the budget and of the ending on
abbrev pub budget_on : CertData → List Tree → List (List ℕ)
budget_on cert trees = budget_line cert.head.budget ∷ boxes_line cert.head.boxes ∷ bound_on cert trees

abbrev pub ending_on : CertData → List Tree → List (List ℕ)
ending_on cert trees = ending_line cert.head.ending ∷ gap_line cert.head.gap ∷ budget_on cert trees

-- the lines from the one of this kind on
abbrev pub lines_from : CertKind → CertData → List Tree → List (List ℕ)
lines_from kind.Format cert trees = opening cert.head.study ++ ending_on cert trees
lines_from kind.Study cert trees = study_words cert.head.study ∷ ending_on cert trees
lines_from kind.Ending cert trees = ending_on cert trees
lines_from kind.Gap cert trees = gap_line cert.head.gap ∷ budget_on cert trees
lines_from kind.Budget cert trees = budget_on cert trees
lines_from kind.Boxes cert trees = boxes_line cert.head.boxes ∷ bound_on cert trees
lines_from kind.Bound cert trees = bound_on cert trees
lines_from kind.Cost cert trees = cost_line cert.head.cost ∷ settings_on cert trees
lines_from kind.Settings cert trees = settings_on cert trees
lines_from kind.Node cert trees = nodes_on trees
lines_from kind.End cert trees = nodes_on trees
lines_from kind.After cert trees = []
