use Rattle.std.proofs.Common.{◌≡◌, ℕ, List, [], ◌∷◌, ◌++◌, length, map, refl, sym, ap, subst, ◌∙◌, arith, append_assoc}
use Rattle.std.specs.List.{AllByRecursion}
use Rattle.std.specs.Prelude.{codes}
use Rattle.std.proofs.lemmas.List.{append_cancel_left}
use Rattle.coord_model.specs.Tree.{Single, nodes_of}
use Rattle.cert_text.specs.CertData.{CertData, IsCert}
use Rattle.cert_text.specs.CertText.{cert_lines, head_lines, settings_line}
use Rattle.cert_text.specs.HeadScan.{IsFront}
use Rattle.cert_text.specs.Nodes.{IsNode, node_line}
use Rattle.cert_text.specs.Reading.{AreWith, AreWithEnd, HaveNodes}
use Rattle.cert_text.specs.ScanState.{IsBeforeNodes, IsNodeKind, KeepsHead}
use Rattle.cert_text.specs.Scanning.{NodesTo, ReachedAt, State, lines_with}
use Rattle.cert_text.specs.declared.kinds.CertKind.{CertKind}
use Rattle.cert_text.specs.declared.kinds.CertKind.TheVariants as kind
use Rattle.cert_text.proofs.NodeSteps.{map_more}
use Rattle.cert_text.proofs.PairWords.{all_append}
use Rattle.cert_text.proofs.SameCerts.{same_nodes}

-- before the nodes there are none
none_before : (due : CertKind) → IsFront due → (s : State) (lines : List (List ℕ)) (nodes : List Single) → HaveNodes due s lines nodes → nodes ≡ []
none_before kind.Format front s lines nodes have = have
none_before kind.Study front s lines nodes have = have
none_before kind.Ending front s lines nodes have = have
none_before kind.Gap front s lines nodes have = have
none_before kind.Budget front s lines nodes have = have
none_before kind.Boxes front s lines nodes have = have
none_before kind.Bound front s lines nodes have = have
none_before kind.Cost front s lines nodes have = have
none_before kind.Settings front s lines nodes have = have
none_before kind.Node front s lines nodes have = absurd front
none_before kind.End front s lines nodes have = absurd front
none_before kind.After front s lines nodes have = absurd front

-- lines that lead to no node have none
none_taken : (s : State) (lines : List (List ℕ)) → NodesTo s lines → s.taken ≡ 0 → AreWith s lines []
none_taken s lines to none = by_nodes to.nodes to.count to.parts
  where
    by_nodes : (nodes : List Single) → length nodes ≡ s.taken → lines ≡ lines_with s nodes → AreWith s lines []
    by_nodes [] count parts = record { parts = parts; each = tt }
    by_nodes (n ∷ nodes) count parts = absurd (omega (arith, count, none))

none_yet : (due : CertKind) (s : State) (lines : List (List ℕ)) → IsBeforeNodes due s → ReachedAt due s lines → HaveNodes due s lines []
none_yet kind.Format s lines before to = refl
none_yet kind.Study s lines before to = refl
none_yet kind.Ending s lines before to = refl
none_yet kind.Gap s lines before to = refl
none_yet kind.Budget s lines before to = refl
none_yet kind.Boxes s lines before to = refl
none_yet kind.Bound s lines before to = refl
none_yet kind.Cost s lines before to = refl
none_yet kind.Settings s lines before to = refl
none_yet kind.Node s lines before to = none_taken s lines to.0 before
none_yet kind.End s lines before to = absurd before
none_yet kind.After s lines before to = absurd before

-- a line of the front was taken
pub front_taken : (due later_due : CertKind) (s later : State) (lines next : List (List ℕ)) (nodes : List Single) → IsFront due → HaveNodes due s lines nodes → IsBeforeNodes later_due later
    → ReachedAt later_due later next → HaveNodes later_due later next nodes
front_taken due later_due s later lines next nodes front have before to =
    subst (HaveNodes later_due later next) (sym (none_before due front s lines nodes have)) (none_yet later_due later next before to)

-- lines with the same head and settings are the same
lines_kept : (s later : State) (nodes : List Single) → KeepsHead s later → lines_with s nodes ≡ lines_with later nodes
lines_kept s later nodes keeps =
    ap (λ h. head_lines h ++ settings_line s.settings ∷ map node_line nodes) (sym keeps.0) ∙ ap (λ t. head_lines later.head ++ settings_line t ∷ map node_line nodes) (sym keeps.1)

with_node : (s later : State) (lines : List (List ℕ)) (line : List ℕ) (nodes : List Single) (node : Single) → KeepsHead s later → AreWith s lines nodes → IsNode node → line ≡ node_line node
    → AreWith later (lines ++ line ∷ []) (nodes ++ node ∷ [])
with_node s later lines line nodes node keeps are is said = record {
  parts = ap (λ l. l ++ line ∷ []) are.parts
      ∙ append_assoc (head_lines s.head) (settings_line s.settings ∷ map node_line nodes) (line ∷ [])
      ∙ ap (λ l. head_lines s.head ++ settings_line s.settings ∷ (map node_line nodes ++ l ∷ [])) said
      ∙ ap (λ l. head_lines s.head ++ settings_line s.settings ∷ l) (sym (map_more nodes node))
      ∙ lines_kept s later (nodes ++ node ∷ []) keeps;
  each = all_append IsNode nodes (node ∷ []) are.each (is, tt);
}

by_kind : (later_due : CertKind) → IsNodeKind later_due → (s : State) (lines : List (List ℕ)) (nodes : List Single) → AreWith s lines nodes → HaveNodes later_due s lines nodes
by_kind kind.Format node s lines nodes are = absurd node
by_kind kind.Study node s lines nodes are = absurd node
by_kind kind.Ending node s lines nodes are = absurd node
by_kind kind.Gap node s lines nodes are = absurd node
by_kind kind.Budget node s lines nodes are = absurd node
by_kind kind.Boxes node s lines nodes are = absurd node
by_kind kind.Bound node s lines nodes are = absurd node
by_kind kind.Cost node s lines nodes are = absurd node
by_kind kind.Settings node s lines nodes are = absurd node
by_kind kind.Node node s lines nodes are = are
by_kind kind.End node s lines nodes are = are
by_kind kind.After node s lines nodes are = absurd node

-- the line of a node was taken
pub node_taken : (due later_due : CertKind) (s later : State) (lines : List (List ℕ)) (line : List ℕ) (nodes : List Single) (node : Single) → due ≡ kind.Node → IsNodeKind later_due → KeepsHead s later
    → HaveNodes due s lines nodes → IsNode node → line ≡ node_line node → HaveNodes later_due later (lines ++ line ∷ []) (nodes ++ node ∷ [])
node_taken due later_due s later lines line nodes node is_due of_node keeps have is said =
    by_kind later_due of_node later (lines ++ line ∷ []) (nodes ++ node ∷ [])
    (with_node s later lines line nodes node keeps (subst (λ k. HaveNodes k s lines nodes) is_due have) is said)

-- the last line was taken
pub end_taken : (due later_due : CertKind) (s later : State) (lines : List (List ℕ)) (line : List ℕ) (nodes : List Single) → due ≡ kind.End → later_due ≡ kind.After → KeepsHead s later
    → HaveNodes due s lines nodes → line ≡ codes "end" → HaveNodes later_due later (lines ++ line ∷ []) nodes
end_taken due later_due s later lines line nodes is_due is_after keeps have said =
    let are : AreWith s lines nodes = subst (λ k. HaveNodes k s lines nodes) is_due have in
    let with : AreWithEnd later (lines ++ line ∷ []) nodes = record {
      before = lines;
      are = record { parts = are.parts ∙ lines_kept s later nodes keeps; each = are.each };
      parts = ap (λ l. lines ++ l ∷ []) said;
    } in
    subst (λ k. HaveNodes k later (lines ++ line ∷ []) nodes) (sym is_after) with

-- lines have one list of nodes
tail_same : (s : State) (nodes others : List Single) → AllByRecursion IsNode nodes → AllByRecursion IsNode others → lines_with s nodes ≡ lines_with s others → nodes ≡ others
tail_same s nodes others of_nodes of_others same =
    let tail : settings_line s.settings ∷ map node_line nodes ≡ settings_line s.settings ∷ map node_line others =
    append_cancel_left (head_lines s.head) (settings_line s.settings ∷ map node_line nodes) (settings_line s.settings ∷ map node_line others) same in
    let lines : map node_line nodes ≡ map node_line others = cc tail in
    same_nodes nodes others of_nodes of_others (ap (λ l. l ++ codes "end" ∷ []) lines)

pub nodes_are : (s : State) (lines : List (List ℕ)) (nodes : List Single) → AreWith s lines nodes → (to : NodesTo s lines) → to.nodes ≡ nodes
nodes_are s lines nodes are to = tail_same s to.nodes nodes to.each are.each (sym to.parts ∙ are.parts)

-- and the lines of a certificate are those of its nodes
pub cert_nodes : (s : State) (lines : List (List ℕ)) (nodes : List Single) → AreWithEnd s lines nodes → (cert : CertData) → IsCert cert → s.head ≡ cert.head → s.settings ≡ cert.settings
    → lines ≡ cert_lines cert → nodes ≡ nodes_of cert.tree
cert_nodes s lines nodes are cert is head settings text =
    let mine : lines ≡ head_lines s.head ++ settings_line s.settings ∷ (map node_line nodes ++ codes "end" ∷ []) =
    are.parts ∙ ap (λ l. l ++ codes "end" ∷ []) are.are.parts ∙ append_assoc (head_lines s.head) (settings_line s.settings ∷ map node_line nodes) (codes "end" ∷ []) in
    let theirs : lines ≡ head_lines s.head ++ settings_line s.settings ∷ (map node_line (nodes_of cert.tree) ++ codes "end" ∷ []) =
    text ∙ ap (λ h. head_lines h ++ settings_line cert.settings ∷ (map node_line (nodes_of cert.tree) ++ codes "end" ∷ [])) (sym head)
    ∙ ap (λ t. head_lines s.head ++ settings_line t ∷ (map node_line (nodes_of cert.tree) ++ codes "end" ∷ [])) (sym settings) in
    let tail : settings_line s.settings ∷ (map node_line nodes ++ codes "end" ∷ []) ≡ settings_line s.settings ∷ (map node_line (nodes_of cert.tree) ++ codes "end" ∷ []) =
    append_cancel_left (head_lines s.head) (settings_line s.settings ∷ (map node_line nodes ++ codes "end" ∷ [])) (settings_line s.settings ∷ (map node_line (nodes_of cert.tree) ++ codes "end" ∷ []))
    (sym mine ∙ theirs) in
    same_nodes nodes (nodes_of cert.tree) are.are.each is.tree.each (cc tail)
