-- Which nodes the lines so far have, as one line more is taken.
use Rattle.std.proofs.Common.{◌≡◌, ℕ, suc, ◌+◌, ◌≤◌, List, [], ◌∷◌, ◌++◌, Option, Some, None, length, map, refl, sym, ap, ◌∙◌, subst, arith, append_assoc, append-nil, length-append}
use Rattle.std.proofs.lemmas.List.{length-map, same_from_push}
use Rattle.std.specs.List.{AllByRecursion}
use Rattle.std.specs.Prelude.{codes}
use Rattle.coord_model.specs.Tree.{Single}
use Rattle.coord_model.specs.declared.cert.StudyHead.{StudyHead}
use Rattle.cert_text.specs.CertText.{bound_line, boxes_line, budget_line, cost_line, ending_line, gap_line, head_lines, opening, settings_line}
use Rattle.cert_text.specs.HeadScan.{HeadTo, IsFront}
use Rattle.cert_text.specs.Nodes.{IsNode, node_line}
use Rattle.cert_text.specs.Scanning.{NodesTo, ReachedAt, State}
use Rattle.cert_text.specs.declared.kinds.CertHead.{CertHead}
use Rattle.cert_text.specs.declared.kinds.CertKind.{CertKind}
use Rattle.cert_text.specs.declared.kinds.CertKind.TheVariants as kind
use Rattle.cert_text.proofs.HeadSteps.{same_behind}
use Rattle.cert_text.proofs.SameNodes.{node_is_not_end, same_node}
use Rattle.cert_check.specs.Seen.{AreLinesOf, AreNodes, AreWithEnd}

-- the lines of a head behind its opening
abbrev pub six_lines : CertHead → List (List ℕ)
six_lines head = ending_line head.ending ∷ gap_line head.gap ∷ budget_line head.budget ∷ boxes_line head.boxes ∷ bound_line head.bound ∷ cost_line head.cost ∷ []

-- the lines of the nodes behind an opening are seven lines later
seven_later : (s t : Option StudyHead) (head : CertHead) (settings : List ℕ) (xs ys : List (List ℕ)) → opening s ++ xs ≡ (opening t ++ six_lines head) ++ settings ∷ ys
    → xs ≡ six_lines head ++ settings ∷ ys
seven_later s t head settings xs ys same = same_behind s t xs (six_lines head ++ settings ∷ ys) (same ∙ append_assoc (opening t) (six_lines head) (settings ∷ ys))

-- the same lines have the same lines of nodes
pub same_tail : (g h : CertHead) (a b : List ℕ) (xs ys : List (List ℕ)) → head_lines g ++ a ∷ xs ≡ head_lines h ++ b ∷ ys → xs ≡ ys
same_tail g h a b xs ys same =
    let seven : six_lines g ++ a ∷ xs ≡ six_lines h ++ b ∷ ys =
    seven_later g.study h.study h b (six_lines g ++ a ∷ xs) ys (sym (append_assoc (opening g.study) (six_lines g) (a ∷ xs)) ∙ same) in
    cc seven

-- nodes by their lines
pub same_nodes : (xs ys : List Single) → AllByRecursion IsNode xs → AllByRecursion IsNode ys → map node_line xs ≡ map node_line ys → xs ≡ ys
same_nodes [] [] of_xs of_ys same = refl
same_nodes [] (y ∷ ys) of_xs of_ys same = absurd (omega (arith, ap length same))
same_nodes (x ∷ xs) [] of_xs of_ys same = absurd (omega (arith, ap length same))
same_nodes (x ∷ xs) (y ∷ ys) of_xs of_ys same =
    let first : node_line x ≡ node_line y = cc same in
    let rest : map node_line xs ≡ map node_line ys = cc same in
    ap (λ (n : Single). n ∷ xs) (same_node x y of_xs.0 of_ys.0 first) ∙ ap (λ (ns : List Single). y ∷ ns) (same_nodes xs ys of_xs.1 of_ys.1 rest)

-- an opening has one line or two
pub opening_few : (s : Option StudyHead) → (1 ≤ length (opening s)) × (length (opening s) ≤ 2)
opening_few None = (omega arith, omega arith)
opening_few (Some s) = (omega arith, omega arith)

behind_few : (s : Option StudyHead) (xs : List (List ℕ)) → length (opening s ++ xs) ≤ 2 + length xs
behind_few s xs = omega (arith, length-append (opening s) xs, opening_few s)

-- the lines of a head and those after it are many
many : (nodes : List Single) (lines : List (List ℕ)) → AreLinesOf nodes lines → 8 + length nodes ≤ length lines
many nodes lines are =
    omega (arith, ap length are.parts, length-append (head_lines are.head) (are.settings ∷ map node_line nodes), length-append (opening are.head.study) (six_lines are.head), length-map nodes node_line, opening_few are.head.study)

-- lines with an opening and those after it
few_behind : (s : Option StudyHead) (xs extra lines : List (List ℕ)) (nodes : List Single) → length xs ≤ 6 → lines ≡ opening s ++ xs → AreLinesOf nodes (lines ++ extra) → suc (length nodes) ≤ length extra
few_behind s xs extra lines nodes few is are =
    let whole : opening s ++ (xs ++ extra) ≡ head_lines are.head ++ are.settings ∷ map node_line nodes =
    sym (append_assoc (opening s) xs extra) ∙ ap (λ (l : List (List ℕ)). l ++ extra) (sym is) ∙ are.parts in
    let seven : xs ++ extra ≡ six_lines are.head ++ are.settings ∷ map node_line nodes = seven_later s are.head.study are.head are.settings (xs ++ extra) (map node_line nodes) whole in
    omega (arith, few, ap length seven, length-append xs extra, length-map nodes node_line)

-- after the lines of a part of a head there are fewer nodes than lines
pub few_nodes : (due : CertKind) → IsFront due → (head : CertHead) (lines extra : List (List ℕ)) (nodes : List Single) → HeadTo due lines head → AreLinesOf nodes (lines ++ extra) → suc (length nodes) ≤ length extra
few_nodes kind.Format front head lines extra nodes to are = omega (arith, many nodes (lines ++ extra) are, length-append lines extra, ap length to.parts)
few_nodes kind.Study front head lines extra nodes to are = omega (arith, many nodes (lines ++ extra) are, length-append lines extra, ap length to.parts)
few_nodes kind.Ending front head lines extra nodes to are = few_behind head.study [] extra lines nodes (omega arith) (to.parts ∙ sym (append-nil (opening head.study))) are
few_nodes kind.Gap front head lines extra nodes to are = few_behind head.study (ending_line head.ending ∷ []) extra lines nodes (omega arith) to.parts are
few_nodes kind.Budget front head lines extra nodes to are = few_behind head.study (ending_line head.ending ∷ gap_line head.gap ∷ []) extra lines nodes (omega arith) to.parts are
few_nodes kind.Boxes front head lines extra nodes to are =
    few_behind head.study (ending_line head.ending ∷ gap_line head.gap ∷ budget_line head.budget ∷ []) extra lines nodes (omega arith) to.parts are
few_nodes kind.Bound front head lines extra nodes to are =
    few_behind head.study (ending_line head.ending ∷ gap_line head.gap ∷ budget_line head.budget ∷ boxes_line head.boxes ∷ []) extra lines nodes (omega arith) to.parts are
few_nodes kind.Cost front head lines extra nodes to are =
    few_behind head.study (ending_line head.ending ∷ gap_line head.gap ∷ budget_line head.budget ∷ boxes_line head.boxes ∷ bound_line head.bound ∷ []) extra lines nodes (omega arith) to.parts are
few_nodes kind.Settings front head lines extra nodes to are = few_behind head.study (six_lines head) extra lines nodes (omega arith) to.parts are
few_nodes kind.Node front head lines extra nodes to are = absurd front
few_nodes kind.End front head lines extra nodes to are = absurd front
few_nodes kind.After front head lines extra nodes to are = absurd front

-- a part of a head has few lines
pub head_few : (due : CertKind) → IsFront due → (head : CertHead) (lines : List (List ℕ)) → HeadTo due lines head → length lines ≤ 8
head_few kind.Format front head lines to = omega (arith, ap length to.parts)
head_few kind.Study front head lines to = omega (arith, ap length to.parts)
head_few kind.Ending front head lines to = omega (arith, ap length to.parts, opening_few head.study)
head_few kind.Gap front head lines to = omega (arith, ap length to.parts, behind_few head.study (ending_line head.ending ∷ []))
head_few kind.Budget front head lines to = omega (arith, ap length to.parts, behind_few head.study (ending_line head.ending ∷ gap_line head.gap ∷ []))
head_few kind.Boxes front head lines to = omega (arith, ap length to.parts, behind_few head.study (ending_line head.ending ∷ gap_line head.gap ∷ budget_line head.budget ∷ []))
head_few kind.Bound front head lines to =
    omega (arith, ap length to.parts, behind_few head.study (ending_line head.ending ∷ gap_line head.gap ∷ budget_line head.budget ∷ boxes_line head.boxes ∷ []))
head_few kind.Cost front head lines to =
    omega (arith, ap length to.parts, behind_few head.study (ending_line head.ending ∷ gap_line head.gap ∷ budget_line head.budget ∷ boxes_line head.boxes ∷ bound_line head.bound ∷ []))
head_few kind.Settings front head lines to = omega (arith, ap length to.parts, behind_few head.study (six_lines head))
head_few kind.Node front head lines to = absurd front
head_few kind.End front head lines to = absurd front
head_few kind.After front head lines to = absurd front

-- a part of a head is due, or it is not
pub data Due (s : State) (lines : List (List ℕ)) : CertKind → Type 0 where
  in_head : {due : CertKind} → IsFront due → HeadTo due lines s.head → ((nodes : List Single) → nodes ≡ [] → AreNodes due nodes lines) → Due s lines due
  in_nodes : {due : CertKind} → NodesTo s lines → ((nodes : List Single) → AreLinesOf nodes lines → AreNodes due nodes lines) → Due s lines due
  at_end : {due : CertKind} → due ≡ kind.After → (before : List (List ℕ)) → NodesTo s before → lines ≡ before ++ codes "end" ∷ [] → ((nodes : List Single) → AreWithEnd nodes lines → AreNodes due nodes lines) → Due s lines due

pub due_of : (due : CertKind) (s : State) (lines : List (List ℕ)) → ReachedAt due s lines → Due s lines due
due_of kind.Format s lines to = in_head tt to (λ n is. is)
due_of kind.Study s lines to = in_head tt to (λ n is. is)
due_of kind.Ending s lines to = in_head tt to (λ n is. is)
due_of kind.Gap s lines to = in_head tt to (λ n is. is)
due_of kind.Budget s lines to = in_head tt to (λ n is. is)
due_of kind.Boxes s lines to = in_head tt to (λ n is. is)
due_of kind.Bound s lines to = in_head tt to (λ n is. is)
due_of kind.Cost s lines to = in_head tt to (λ n is. is)
due_of kind.Settings s lines to = in_head tt to (λ n is. is)
due_of kind.Node s lines to = in_nodes to.0 (λ n is. is)
due_of kind.End s lines to = in_nodes to.0 (λ n is. is)
due_of kind.After s lines to = at_end refl to.before to.read to.parts (λ n is. is)

-- the lines of the nodes that a scan has read
pub lines_of : (s : State) (lines : List (List ℕ)) (to : NodesTo s lines) → AreLinesOf to.nodes lines
lines_of s lines to = record { head = s.head; settings = settings_line s.settings; parts = to.parts }

no_nodes : (nodes : List Single) → suc (length nodes) ≤ 1 → nodes ≡ []
no_nodes [] few = refl
no_nodes (n ∷ ns) few = absurd (omega (arith, few))

head_of : (due : CertKind) → IsFront due → (s : State) (lines : List (List ℕ)) → ReachedAt due s lines → HeadTo due lines s.head
head_of kind.Format front s lines to = to
head_of kind.Study front s lines to = to
head_of kind.Ending front s lines to = to
head_of kind.Gap front s lines to = to
head_of kind.Budget front s lines to = to
head_of kind.Boxes front s lines to = to
head_of kind.Bound front s lines to = to
head_of kind.Cost front s lines to = to
head_of kind.Settings front s lines to = to
head_of kind.Node front s lines to = absurd front
head_of kind.End front s lines to = absurd front
head_of kind.After front s lines to = absurd front

pub none_in_head : (due : CertKind) → IsFront due → (nodes : List Single) (lines : List (List ℕ)) → AreNodes due nodes lines → nodes ≡ []
none_in_head kind.Format front nodes lines are = are
none_in_head kind.Study front nodes lines are = are
none_in_head kind.Ending front nodes lines are = are
none_in_head kind.Gap front nodes lines are = are
none_in_head kind.Budget front nodes lines are = are
none_in_head kind.Boxes front nodes lines are = are
none_in_head kind.Bound front nodes lines are = are
none_in_head kind.Cost front nodes lines are = are
none_in_head kind.Settings front nodes lines are = are
none_in_head kind.Node front nodes lines are = absurd front
none_in_head kind.End front nodes lines are = absurd front
none_in_head kind.After front nodes lines are = absurd front

-- a line of a head leaves no nodes
pub head_next : (due later : CertKind) (s t : State) (lines : List (List ℕ)) (line : List ℕ) (nodes : List Single) → IsFront due → ReachedAt due s lines → AreNodes due nodes lines
    → ReachedAt later t (lines ++ line ∷ []) → AreNodes later nodes (lines ++ line ∷ [])
head_next due later s t lines line nodes front reached are after = elim (due_of later t (lines ++ line ∷ []) after) [
  | in_head is_front head gives ↦ gives nodes (none_in_head due front nodes lines are)
  | in_nodes to gives ↦
      let of = lines_of t (lines ++ line ∷ []) to in
      let no = no_nodes to.nodes (few_nodes due front s.head lines (line ∷ []) to.nodes (head_of due front s lines reached) of) in
      gives nodes (subst (λ (ns : List Single). AreLinesOf ns (lines ++ line ∷ [])) (no ∙ sym (none_in_head due front nodes lines are)) of)
  | at_end is_after before to parts gives ↦
      let here : lines ≡ before = (same_from_push lines before line (codes "end") parts).0 in
      let of = subst (λ (ls : List (List ℕ)). AreLinesOf to.nodes ls) (sym here ∙ sym (append-nil lines)) (lines_of t before to) in
      absurd (omega (arith, few_nodes due front s.head lines [] to.nodes (head_of due front s lines reached) of))
]

-- a node more
pub lines_more : (nodes : List Single) (node : Single) (lines : List (List ℕ)) (line : List ℕ) → line ≡ node_line node → AreLinesOf nodes lines → AreLinesOf (nodes ++ node ∷ []) (lines ++ line ∷ [])
lines_more nodes node lines line is are = record {
  head = are.head;
  settings = are.settings;
  parts = ap (λ (l : List (List ℕ)). l ++ line ∷ []) are.parts ∙ append_assoc (head_lines are.head) (are.settings ∷ map node_line nodes) (line ∷ [])
      ∙ ap (λ (l : List ℕ). head_lines are.head ++ are.settings ∷ (map node_line nodes ++ l ∷ [])) is ∙ ap (λ (l : List (List ℕ)). head_lines are.head ++ are.settings ∷ l) (sym (map_push nodes));
}
  where
    map_push : (ns : List Single) → map node_line (ns ++ node ∷ []) ≡ map node_line ns ++ node_line node ∷ []
    map_push [] = refl
    map_push (n ∷ ns) = ap (λ (l : List (List ℕ)). node_line n ∷ l) (map_push ns)

pub node_next : (later : CertKind) (t : State) (lines : List (List ℕ)) (line : List ℕ) (nodes : List Single) (node : Single) → line ≡ node_line node → AreLinesOf nodes lines
    → ReachedAt later t (lines ++ line ∷ []) → AreNodes later (nodes ++ node ∷ []) (lines ++ line ∷ [])
node_next later t lines line nodes node is are after =
    let more = lines_more nodes node lines line is are in
    elim (due_of later t (lines ++ line ∷ []) after) [
      | in_head front head gives ↦
          let of = subst (λ (ls : List (List ℕ)). AreLinesOf (nodes ++ node ∷ []) ls) (sym (append-nil (lines ++ line ∷ []))) more in
          absurd (omega (arith, few_nodes later front t.head (lines ++ line ∷ []) [] (nodes ++ node ∷ []) head of))
      | in_nodes to gives ↦ gives (nodes ++ node ∷ []) more
      | at_end is_after before to parts gives ↦ absurd (node_is_not_end node.line node.weights (sym is ∙ (same_from_push lines before line (codes "end") parts).1))
    ]

-- and the last line
pub end_next : (t : State) (lines : List (List ℕ)) (line : List ℕ) (nodes : List Single) → AreLinesOf nodes lines → ReachedAt kind.After t (lines ++ line ∷ []) → AreNodes kind.After nodes (lines ++ line ∷ [])
end_next t lines line nodes are after = record { before = lines; are = are; parts = ap (λ (l : List ℕ). lines ++ l ∷ []) (same_from_push lines after.before line (codes "end") after.parts).1 }
