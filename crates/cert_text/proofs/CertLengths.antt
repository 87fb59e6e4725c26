-- A certificate's text has at most 512 MiB: its lines are few, and each is short.
use Rattle.std.proofs.Common.{◌≡◌, ℕ, ◌*◌, ◌≤◌, Option, Some, None, List, [], ◌∷◌, ◌++◌, length, map, Result, Ok, Err, ap, arith, length-append}
use Rattle.std.proofs.lemmas.List.{length-map}
use Rattle.std.specs.List.{AllByRecursion}
use Rattle.std.specs.Prelude.{codes, IfOk, IfSome}
use Rattle.coord_model.specs.Tree.{Single, nodes_of}
use Rattle.coord_model.specs.declared.cert.StudyHead.{StudyHead}
use Rattle.coord_text.specs.Claims.{text_of}
use Rattle.cert_text.specs.CertData.{CertData, IsCert, IsStudyHead}
use Rattle.cert_text.specs.CertText.{TextsFit, bound_line, boxes_line, budget_line, cert_lines, cert_text, cost_line, ending_line, gap_line, head_lines, opening, settings_line}
use Rattle.cert_text.specs.Nodes.{IsNode, node_line}
use Rattle.cert_text.specs.declared.kinds.CertKind.TheVariants as kind
use Rattle.cert_text.proofs.LineLengths.{node_short, settings_short, study_short}
use Rattle.cert_text.proofs.PairWords.{all_append}
use Rattle.cert_text.proofs.Printed.{front_short}

-- a line, its line feed aside, has at most 1,036 bytes
abbrev IsBrief : List ℕ → Type 0
IsBrief line = length line ≤ 1036

opening_brief : (study : Option StudyHead) → IfSome study IsStudyHead → AllByRecursion IsBrief (opening study)
opening_brief None is = (omega arith, tt)
opening_brief (Some study) is = (omega arith, (study_short study is, tt))

opening_few : (study : Option StudyHead) → length (opening study) ≤ 2
opening_few None = omega arith
opening_few (Some study) = omega arith

nodes_brief : (nodes : List Single) → AllByRecursion IsNode nodes → AllByRecursion IsBrief (map node_line nodes)
nodes_brief [] each = tt
nodes_brief (n ∷ nodes) each = (node_short n each.0, nodes_brief nodes each.1)

module _ (cert : CertData) (is : IsCert cert) where
  abbrev six : List (List ℕ)
  six =
      ending_line cert.head.ending ∷ gap_line cert.head.gap ∷ budget_line cert.head.budget ∷ boxes_line cert.head.boxes
      ∷ bound_line cert.head.bound ∷ cost_line cert.head.cost ∷ []

  abbrev rest : List (List ℕ)
  rest = map node_line (nodes_of cert.tree) ++ codes "end" ∷ []

  brief : AllByRecursion IsBrief (cert_lines cert)
  brief =
      all_append IsBrief (head_lines cert.head) (settings_line cert.settings ∷ rest)
      (all_append IsBrief (opening cert.head.study) six (opening_brief cert.head.study is.head.study) (
        front_short kind.Ending cert is,
        (
          front_short kind.Gap cert is,
          (front_short kind.Budget cert is, (front_short kind.Boxes cert is, (front_short kind.Bound cert is, (front_short kind.Cost cert is, tt)))),
        ),
      )) (
        settings_short cert.settings is.issued.within,
        all_append IsBrief (map node_line (nodes_of cert.tree)) (codes "end" ∷ []) (nodes_brief (nodes_of cert.tree) is.tree.each) (omega arith, tt),
      )

  few : length (cert_lines cert) ≤ 400011
  few =
      omega (
        arith,
        length-append (head_lines cert.head) (settings_line cert.settings ∷ rest),
        length-append (opening cert.head.study) six,
        opening_few cert.head.study,
        length-append (map node_line (nodes_of cert.tree)) (codes "end" ∷ []),
        length-map (nodes_of cert.tree) node_line,
        is.tree.nodes,
      )

brief_text : (lines : List (List ℕ)) → AllByRecursion IsBrief lines → length (text_of lines) ≤ 1037 * length lines
brief_text [] brief = omega arith
brief_text (l ∷ ls) brief = omega (arith, length-append (l ++ 10 ∷ []) (text_of ls), length-append l (10 ∷ []), brief.0, brief_text ls brief.1)

pub texts_fit : TextsFit
texts_fit cert is = omega (arith, brief_text (cert_lines cert) (brief cert is), few cert is)

pub text_fits : {V E : Type 0} (made : Result V E) (items : V → List ℕ) (cert : CertData) → IsCert cert → IfOk made (λ v. items v ≡ cert_text cert)
    → IfOk made (λ v. length (items v) ≤ 536870912)
text_fits (Ok v) items cert is text = omega (arith, ap length text, texts_fit cert is)
text_fits (Err e) items cert is text = tt
