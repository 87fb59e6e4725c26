use Rattle.std.proofs.Common.{◌≡◌, ◌≢◌, ℕ, ◌+◌, ◌≤◌, Option, Some, None, List, [], ◌∷◌, ◌++◌, length, map, refl, sym, ap, subst, ◌∙◌, arith, append_assoc, append-nil, length-append}
use Rattle.std.specs.List.{AllByRecursion}
use Rattle.std.specs.Prelude.{codes}
use Rattle.coord_model.specs.Tree.{Single, nodes_of}
use Rattle.coord_model.specs.declared.cert.StudyHead.{StudyHead}
use Rattle.coord_text.specs.Claims.{text_of}
use Rattle.coord_text.specs.Lines.{IsLine}
use Rattle.coord_text.proofs.Breaks.{same_first_line}
use Rattle.cert_text.specs.CertData.{CertData, IsCert}
use Rattle.cert_text.specs.CertText.{cert_lines, opening, ending_line, gap_line, budget_line, boxes_line, bound_line, cost_line}
use Rattle.cert_text.specs.Forests.{forest}
use Rattle.cert_text.specs.HeadScan.{HeadTo, IsFront, lines_to}
use Rattle.cert_text.specs.Nodes.{node_line}
use Rattle.cert_text.specs.Scanning.{Begins, NodesTo, Reached, ReachedAt, State}
use Rattle.cert_text.specs.Stops.{StopsAt}
use Rattle.cert_text.specs.declared.kinds.CertHead.{CertHead}
use Rattle.cert_text.specs.declared.kinds.CertKind.{CertKind}
use Rattle.cert_text.specs.declared.kinds.CertKind.TheVariants as kind
use Rattle.cert_text.proofs.Beginnings.{begins_at}
use Rattle.cert_text.proofs.CertLines.{cert_are_lines}
use Rattle.cert_text.proofs.HeadSteps.{body_lines, lines_are}
use Rattle.cert_text.proofs.NodeSteps.{ahead_of}

-- the lines begin the others, and the rest is the text of what follows
pub record Peeled (xs ys : List (List ℕ)) (left : List ℕ) : Type 0 where
  pub more : List (List ℕ)
  pub parts : ys ≡ xs ++ more
  pub rest : left ≡ text_of more
  pub each : AllByRecursion IsLine more

-- a text that begins with lines begins with its own
pub peel : (xs ys : List (List ℕ)) (left : List ℕ) → AllByRecursion IsLine xs → AllByRecursion IsLine ys → text_of xs ++ left ≡ text_of ys → Peeled xs ys left
peel [] ys left of_xs of_ys same = record { more = ys; parts = refl; rest = same; each = of_ys }
peel (x ∷ xs) [] left of_xs of_ys same =
    absurd (omega (arith, ap length same, length-append ((x ++ 10 ∷ []) ++ text_of xs) left, length-append (x ++ 10 ∷ []) (text_of xs), length-append x (10 ∷ [])))
peel (x ∷ xs) (y ∷ ys) left of_xs of_ys same =
    let cut : x ++ 10 ∷ (text_of xs ++ left) ≡ y ++ 10 ∷ text_of ys =
    sym (append_assoc (x ++ 10 ∷ []) (text_of xs) left ∙ append_assoc x (10 ∷ []) (text_of xs ++ left)) ∙ same ∙ append_assoc y (10 ∷ []) (text_of ys) in
    let first = same_first_line x y (text_of xs ++ left) (text_of ys) of_xs.0 of_ys.0 cut in
    let tail = peel xs ys left of_xs.1 of_ys.1 first.1 in
    record { more = tail.more; parts = ap (λ l. l ∷ ys) (sym first.0) ∙ ap (λ l. x ∷ l) tail.parts; rest = tail.rest; each = tail.each }

-- how many lines stand before the settings, and in a certificate
opening_count : (study : Option StudyHead) → (1 ≤ length (opening study)) × (length (opening study) ≤ 2)
opening_count None = (omega arith, omega arith)
opening_count (Some study) = (omega arith, omega arith)

body_count : (cert : CertData) → length (body_lines cert) ≡ length (nodes_of cert.tree) + 8
body_count cert = omega (arith, length-append (map node_line (nodes_of cert.tree)) (codes "end" ∷ []), map_count (nodes_of cert.tree))
  where
    map_count : (nodes : List Single) → length (map node_line nodes) ≡ length nodes
    map_count [] = refl
    map_count (n ∷ nodes) = omega (arith, map_count nodes)

front_count : (due : CertKind) → IsFront due → (head : CertHead) → length (lines_to due head) ≤ length (opening head.study) + 6
front_count kind.Format front head = omega arith
front_count kind.Study front head = omega (arith, opening_count head.study)
front_count kind.Ending front head = omega arith
front_count kind.Gap front head = omega (arith, length-append (opening head.study) (ending_line head.ending ∷ []))
front_count kind.Budget front head = omega (arith, length-append (opening head.study) (ending_line head.ending ∷ gap_line head.gap ∷ []))
front_count kind.Boxes front head = omega (arith, length-append (opening head.study) (ending_line head.ending ∷ gap_line head.gap ∷ budget_line head.budget ∷ []))
front_count kind.Bound front head =
    omega (arith, length-append (opening head.study) (ending_line head.ending ∷ gap_line head.gap ∷ budget_line head.budget ∷ boxes_line head.boxes ∷ []))
front_count kind.Cost front head =
    omega (arith, length-append (opening head.study) (ending_line head.ending ∷ gap_line head.gap ∷ budget_line head.budget ∷ boxes_line head.boxes ∷ bound_line head.bound ∷ []))
front_count kind.Settings front head =
    omega (arith, length-append (opening head.study) (ending_line head.ending ∷ gap_line head.gap ∷ budget_line head.budget ∷ boxes_line head.boxes ∷ bound_line head.bound ∷ cost_line head.cost ∷ []))
front_count kind.Node front head = absurd front
front_count kind.End front head = absurd front
front_count kind.After front head = absurd front

-- a certificate has at most 400,011 lines
cert_count : (cert : CertData) → length (cert_lines cert) ≡ length (opening cert.head.study) + (length (nodes_of cert.tree) + 8)
cert_count cert = omega (arith, ap length (lines_are cert), length-append (opening cert.head.study) (body_lines cert), body_count cert)

pub begins_few : (lines : List (List ℕ)) → Begins lines → length lines ≤ 400011
begins_few lines b = omega (arith, opening_count b.cert.head.study, cert_count b.cert, ap length b.parts, length-append lines b.more, b.is.tree.nodes)

-- lines after which another is due are no certificate
front_not_whole : (due : CertKind) → IsFront due → (lines : List (List ℕ)) (head : CertHead) → HeadTo due lines head → (cert : CertData) → cert_lines cert ≢ lines
front_not_whole due front lines head to cert same =
    omega (arith, front_count due front head, opening_count head.study, opening_count cert.head.study, cert_count cert, ap length same, ap length to.parts)

nodes_not_whole : (s : State) (lines : List (List ℕ)) → NodesTo s lines → (cert : CertData) → IsCert cert → cert_lines cert ≢ lines
nodes_not_whole s lines to cert is same =
    let ahead = ahead_of s lines [] to cert is (same ∙ sym (append-nil lines)) in
    omega (arith, ap length ahead.parts, length-append (map node_line (forest ahead.left)) (codes "end" ∷ []))

not_whole_at : (due : CertKind) (s : State) (lines : List (List ℕ)) → ReachedAt due s lines → due ≢ kind.After → (cert : CertData) → IsCert cert → cert_lines cert ≢ lines
not_whole_at kind.Format s lines to not cert is = front_not_whole kind.Format tt lines s.head to cert
not_whole_at kind.Study s lines to not cert is = front_not_whole kind.Study tt lines s.head to cert
not_whole_at kind.Ending s lines to not cert is = front_not_whole kind.Ending tt lines s.head to cert
not_whole_at kind.Gap s lines to not cert is = front_not_whole kind.Gap tt lines s.head to cert
not_whole_at kind.Budget s lines to not cert is = front_not_whole kind.Budget tt lines s.head to cert
not_whole_at kind.Boxes s lines to not cert is = front_not_whole kind.Boxes tt lines s.head to cert
not_whole_at kind.Bound s lines to not cert is = front_not_whole kind.Bound tt lines s.head to cert
not_whole_at kind.Cost s lines to not cert is = front_not_whole kind.Cost tt lines s.head to cert
not_whole_at kind.Settings s lines to not cert is = front_not_whole kind.Settings tt lines s.head to cert
not_whole_at kind.Node s lines to not cert is = nodes_not_whole s lines to.0 cert is
not_whole_at kind.End s lines to not cert is = nodes_not_whole s lines to.0 cert is
not_whole_at kind.After s lines to not cert is = absurd (not refl)

-- bytes stop where no line goes on with those before it
stops_here : (bytes left : List ℕ) (s : State) (lines : List (List ℕ)) → AllByRecursion IsLine lines → bytes ≡ text_of lines ++ left → Reached s lines
    → (left ≡ [] → s.due ≢ kind.After) → ((here rest : List ℕ) → IsLine here → left ≡ here ++ 10 ∷ rest → ¬ Begins (lines ++ here ∷ []))
    → (number : ℕ) → number ≡ length lines + 1 → StopsAt bytes number s.due
stops_here bytes left s lines each parts reached ends dead number number_is = record {
  no_cert = λ cert is text.
      let peeled = peel lines (cert_lines cert) left each (cert_are_lines cert is) (sym parts ∙ text) in
      no_more cert is peeled.more peeled.parts peeled.rest peeled.each;
  before = lines;
  left = left;
  parts = parts;
  number = number_is;
  due = record { begins = begins_at s.due s lines reached; state = s; reached = reached; is = refl };
  stops = dead;
}
  where
    no_more : (cert : CertData) → IsCert cert → (more : List (List ℕ)) → cert_lines cert ≡ lines ++ more → left ≡ text_of more → AllByRecursion IsLine more → ⊥
    no_more cert is [] same rest of_more = not_whole_at s.due s lines reached (ends rest) cert is (same ∙ append-nil lines)
    no_more cert is (here ∷ more) same rest of_more =
        dead here (text_of more) of_more.0 (rest ∙ append_assoc here (10 ∷ []) (text_of more))
        (record { cert = cert; is = is; more = more; parts = same ∙ sym (append_assoc lines (here ∷ []) more) })

-- a line that goes on with none
pub line_stops : (bytes left line rest : List ℕ) (s : State) (lines : List (List ℕ)) → AllByRecursion IsLine lines → bytes ≡ text_of lines ++ left → Reached s lines
    → IsLine line → left ≡ line ++ 10 ∷ rest → ¬ Begins (lines ++ line ∷ []) → (number : ℕ) → number ≡ length lines + 1 → StopsAt bytes number s.due
line_stops bytes left line rest s lines each parts reached of_line stands stops number number_is =
    stops_here bytes left s lines each parts reached
    (λ none. absurd (omega (arith, ap length (sym none ∙ stands), length-append line (10 ∷ rest))))
    (λ here more of_here here_stands begins. stops (subst (λ l. Begins (lines ++ l ∷ [])) (same_first_line here line more rest of_here of_line (sym here_stands ∙ stands)).0 begins))
    number number_is

-- no line, before the last one is read or after it
pub missing_stops : (bytes left : List ℕ) (s : State) (lines : List (List ℕ)) → AllByRecursion IsLine lines → bytes ≡ text_of lines ++ left → Reached s lines
    → (left ≡ [] → s.due ≢ kind.After) → ((line rest : List ℕ) → IsLine line → left ≢ line ++ 10 ∷ rest) → (number : ℕ) → number ≡ length lines + 1 → StopsAt bytes number s.due
missing_stops bytes left s lines each parts reached ends none number number_is =
    stops_here bytes left s lines each parts reached ends (λ here rest of_here stands begins. none here rest of_here stands) number number_is
