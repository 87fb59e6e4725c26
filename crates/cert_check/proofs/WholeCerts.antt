-- A certificate whose lines have all come in: its nodes are those that were seen.
use Rattle.std.proofs.Common.{◌≡◌, ℕ, List, [], ◌∷◌, ◌++◌, map, sym, ap, ◌∙◌, subst, append_assoc}
use Rattle.std.proofs.lemmas.List.{append_cancel_right}
use Rattle.std.specs.List.{AllByRecursion}
use Rattle.std.specs.Prelude.{codes}
use Rattle.coord_model.specs.Tree.{Single, Tree, split, empty, void, bound, hair, open_leaf, nodes_of}
use Rattle.coord_model.specs.TreeLimits.{FitLeaves}
use Rattle.cert_text.specs.CertData.{CertData, IsCert}
use Rattle.cert_text.specs.CertText.{cert_lines, head_lines, settings_line}
use Rattle.cert_text.specs.Nodes.{IsNode, node_line}
use Rattle.cert_text.specs.ScanState.{state_of}
use Rattle.cert_text.specs.Scanning.{ReachedAt, ReadWhole}
use Rattle.cert_text.specs.declared.kinds.CertKind.{CertKind}
use Rattle.coord_text.specs.Claims.{text_of}
use Rattle.margin_rows.specs.Case.{Case}
use Rattle.cert_check.specs.Endings.{EndsWhole, SawCert}
use Rattle.cert_check.specs.Seen.{AreNodes, AreWithEnd, Saw}
use Rattle.cert_check.specs.declared.lines.LineCheck.{LineCheck}
use Rattle.cert_check.proofs.NodeLines.{same_nodes, same_tail}

-- the lines of a certificate but for the last
abbrev front_lines : CertData → List (List ℕ)
front_lines cert = head_lines cert.head ++ settings_line cert.settings ∷ map node_line (nodes_of cert.tree)

lines_end : (cert : CertData) → cert_lines cert ≡ front_lines cert ++ codes "end" ∷ []
lines_end cert = sym (append_assoc (head_lines cert.head) (settings_line cert.settings ∷ map node_line (nodes_of cert.tree)) (codes "end" ∷ []))

-- the nodes of the lines of a certificate are those of its tree
whole_nodes : (cert : CertData) (nodes : List Single) (lines : List (List ℕ)) → IsCert cert → AllByRecursion IsNode nodes → lines ≡ cert_lines cert → AreWithEnd nodes lines → nodes ≡ nodes_of cert.tree
whole_nodes cert nodes lines is each all are =
    let same : are.before ++ codes "end" ∷ [] ≡ front_lines cert ++ codes "end" ∷ [] = sym are.parts ∙ all ∙ lines_end cert in
    let front : are.before ≡ front_lines cert = append_cancel_right are.before (front_lines cert) (codes "end" ∷ []) same in
    same_nodes nodes (nodes_of cert.tree) each is.tree.each
    (same_tail are.are.head cert.head are.are.settings (settings_line cert.settings) (map node_line nodes) (map node_line (nodes_of cert.tree)) (sym are.are.parts ∙ front))

-- a certificate that has come in whole was seen whole
pub saw_cert : (case : Case) (check : LineCheck) (bytes : List ℕ) → EndsWhole case check bytes → SawCert case check bytes
saw_cert case check bytes ends =
    let goes = ends.goes in
    let whole : ReadWhole (state_of check.scan) ends.lines = subst (λ (k : CertKind). ReachedAt k (state_of check.scan) ends.lines) ends.last goes.reached in
    let are : AreWithEnd goes.nodes ends.lines = subst (λ (k : CertKind). AreNodes k goes.nodes ends.lines) ends.last goes.are in
    let nodes = whole_nodes whole.cert goes.nodes ends.lines whole.is goes.each whole.text are in
    record {
      cert = whole.cert;
      text = record { is = whole.is; text = ends.text ∙ ap text_of whole.text };
      last = ends.last;
      head = whole.head;
      settings = whole.settings;
      box = goes.box;
      first = goes.first;
      saw = subst (λ (ns : List Single). Saw case goes.box check.nodes.walk check.nodes.fault ns) nodes goes.saw;
    }

-- a front of nodes within their limits, and the others
each_front : (xs ys : List Single) → AllByRecursion IsNode (xs ++ ys) → AllByRecursion IsNode xs × AllByRecursion IsNode ys
each_front [] ys all = (tt, all)
each_front (x ∷ xs) ys all = let rest = each_front xs ys all.1 in ((all.0, rest.0), rest.1)

-- the leaves of a tree of such nodes have fit weights
pub leaves_fit : (tree : Tree) → AllByRecursion IsNode (nodes_of tree) → FitLeaves tree
leaves_fit (split relay at low high) all = let parts = each_front (nodes_of low) (nodes_of high) all.1 in (leaves_fit low parts.0, leaves_fit high parts.1)
leaves_fit empty all = tt
leaves_fit (void weights) all = all.0.1.leaf
leaves_fit (bound lambda weights) all = (all.0.0.0, all.0.1.leaf, all.0.0.1)
leaves_fit (hair row) all = tt
leaves_fit (open_leaf lambda weights) all = (all.0.0.0, all.0.1.leaf, all.0.0.1)
