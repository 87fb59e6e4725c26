-- A certificate's lines as they come in, one line more.
use Rattle.std.proofs.Common.{◌≡◌, ◌≢◌, ℕ, ◌+◌, ◌≤◌, true, false, List, [], ◌∷◌, ◌++◌, Option, None, Some, refl, sym, subst, arith, length-append}
use Rattle.std.specs.Option.{is_some}
use Rattle.coord_model.specs.Tree.{Single}
use Rattle.coord_model.specs.declared.tree.NodeLine.{NodeLine}
use Rattle.coord_model.specs.declared.weights.Weight.{Weight}
use Rattle.coord_text.specs.Lines.{IsLine}
use Rattle.cert_text.specs.Nodes.{IsNode}
use Rattle.cert_text.specs.ScanState.{IsItem, state_of}
use Rattle.cert_text.specs.Scanning.{Begins, Reached, ReachedAt, State}
use Rattle.cert_text.specs.declared.kinds.CertItem.{CertItem}
use Rattle.cert_text.specs.declared.kinds.CertItem.TheVariants.{Head, Node, End}
use Rattle.cert_text.specs.declared.kinds.CertKind.{CertKind}
use Rattle.cert_text.proofs.Beginnings.{begins_at}
use Rattle.cert_text.proofs.PairWords.{all_append}
use Rattle.cert_tree.specs.Judgement.{single}
use Rattle.cert_tree.specs.TreeWalks.{walk_at}
use Rattle.cert_tree.specs.Walks.{Walk}
use Rattle.cert_tree.proofs.WalkLaws.{refused_in_front}
use Rattle.margin_rows.specs.Box.{Box}
use Rattle.margin_rows.specs.Case.{Case}
use Rattle.cert_check.specs.Seen.{AreNodes, CanTake, Saw}
use Rattle.cert_check.specs.BadLines.{IsBadLine}
use Rattle.cert_check.specs.Streams.{Goes}
use Rattle.cert_check.specs.declared.lines.LineCheck.{LineCheck}
use Rattle.cert_check.specs.declared.nodes.NodeCheck.{NodeCheck}
use Rattle.cert_check.specs.declared.nodes.NodeFault.{NodeFault}
use Rattle.cert_check.proofs.NodeLines.{end_next, head_next, node_next}
use Rattle.cert_check.proofs.Seeing.{can_take}
use Rattle.cert_check.proofs.Stopping.{begun_is_line, lines_few}

-- nothing is there
pub none_there : {T : Type 0} (o : Option T) → is_some o ≡ false → o ≡ None
none_there None is = refl
none_there (Some x) is = absurd (cc is)

-- after a wrong node more nodes change nothing
pub saw_on : (case : Case) (box : Box) (walk : Walk) (fault : Option NodeFault) (nodes : List Single) (node : Single) → is_some fault ≡ true → Saw case box walk fault nodes → Saw case box walk fault (nodes ++ node ∷ [])
saw_on case box walk None nodes node is saw = absurd (cc is)
saw_on case box walk (Some fault) nodes node is saw = refused_in_front case nodes (node ∷ []) (walk_at box) fault.number fault.kind saw

-- few lines were taken
pub taken_few : (case : Case) (check : LineCheck) (lines : List (List ℕ)) → Goes case check lines → check.taken ≤ 400011
taken_few case check lines goes = omega (arith, goes.taken, lines_few lines (begins_at check.scan.due (state_of check.scan) lines goes.reached))

-- a node that the scan has taken can be taken by the walk
pub node_can : (case : Case) (check : LineCheck) (lines : List (List ℕ)) (later : State) (node : NodeLine) (weights ws : List Weight) (line : List ℕ) → Goes case check lines
    → IsItem (Node node) (state_of check.scan) later weights line → ws ≡ weights → check.nodes.fault ≡ None → CanTake case check.nodes.walk node ws
node_can case check lines later node weights ws line goes item same none =
    let s = state_of check.scan in
    let at = subst (λ (k : CertKind). ReachedAt k s lines) item.0 goes.reached in
    let are = subst (λ (k : CertKind). AreNodes k goes.nodes lines) item.0 goes.are in
    let saw = subst (λ (f : Option NodeFault). Saw case goes.box check.nodes.walk f goes.nodes) none goes.saw in
    subst (λ (v : List Weight). CanTake case check.nodes.walk node v) (sym same)
    (can_take case goes.box s lines goes.nodes check.nodes.walk node weights later.dues later.taken at.0 goes.each are saw.0 item.1 item.3)

-- lines go on with a node
pub goes_node : (case : Case) (check after : LineCheck) (lines : List (List ℕ)) (line : List ℕ) (node : NodeLine) (weights ws : List Weight) → Goes case check lines
    → IsItem (Node node) (state_of check.scan) (state_of after.scan) weights line → ws ≡ weights → Reached (state_of after.scan) (lines ++ line ∷ []) → after.scan.refused ≡ false → after.taken ≡ check.taken + 1
    → ((box : Box) (nodes : List Single) → Saw case box check.nodes.walk check.nodes.fault nodes → Saw case box after.nodes.walk after.nodes.fault (nodes ++ single node ws ∷ []))
    → Goes case after (lines ++ line ∷ [])
goes_node case check after lines line node weights ws goes item same reached accepts taken saw =
    let are = subst (λ (k : CertKind). AreNodes k goes.nodes lines) item.0 goes.are in
    record {
      accepts = accepts;
      reached = reached;
      taken = omega (arith, taken, goes.taken, length-append lines (line ∷ []));
      box = goes.box;
      first = goes.first;
      nodes = goes.nodes ++ single node weights ∷ [];
      each = all_append IsNode goes.nodes (single node weights ∷ []) goes.each (item.1, tt);
      are = node_next after.scan.due (state_of after.scan) lines line goes.nodes (single node weights) item.2 are reached;
      saw = subst (λ (v : List Weight). Saw case goes.box after.nodes.walk after.nodes.fault (goes.nodes ++ single node v ∷ [])) same (saw goes.box goes.nodes goes.saw);
    }

-- and with another line
pub goes_other : (case : Case) (check after : LineCheck) (lines : List (List ℕ)) (line : List ℕ) (item : CertItem) (weights : List Weight) → ((node : NodeLine) → item ≢ Node node) → Goes case check lines
    → IsItem item (state_of check.scan) (state_of after.scan) weights line → Reached (state_of after.scan) (lines ++ line ∷ []) → after.scan.refused ≡ false → after.taken ≡ check.taken + 1
    → after.nodes ≡ check.nodes → Goes case after (lines ++ line ∷ [])
goes_other case check after lines line item weights other goes is reached accepts taken same = record {
  accepts = accepts;
  reached = reached;
  taken = omega (arith, taken, goes.taken, length-append lines (line ∷ []));
  box = goes.box;
  first = goes.first;
  nodes = goes.nodes;
  each = goes.each;
  are = by_item item other is;
  saw = subst (λ (n : NodeCheck). Saw case goes.box n.walk n.fault goes.nodes) (sym same) goes.saw;
}
  where
    by_item : (i : CertItem) → ((node : NodeLine) → i ≢ Node node) → IsItem i (state_of check.scan) (state_of after.scan) weights line → AreNodes after.scan.due goes.nodes (lines ++ line ∷ [])
    by_item Head other front = head_next check.scan.due after.scan.due (state_of check.scan) (state_of after.scan) lines line goes.nodes front goes.reached goes.are reached
    by_item (Node node) other is = absurd (other node refl)
    by_item End other ends =
        subst (λ (k : CertKind). AreNodes k goes.nodes (lines ++ line ∷ [])) (sym ends.1)
        (end_next (state_of after.scan) lines line goes.nodes (subst (λ (k : CertKind). AreNodes k goes.nodes lines) ends.0 goes.are)
        (subst (λ (k : CertKind). ReachedAt k (state_of after.scan) (lines ++ line ∷ [])) ends.1 reached))

-- lines do not go on
pub bad_line : (case : Case) (check : LineCheck) (lines : List (List ℕ)) (here : List ℕ) (line : ℕ) (due : CertKind) → Goes case check lines → line ≡ check.taken + 1 → due ≡ check.scan.due
    → ¬ Begins (lines ++ here ∷ []) → IsBadLine lines here line due
bad_line case check lines here line due goes number is stops = record {
  number = omega (arith, number, goes.taken);
  due = record { begins = begins_at check.scan.due (state_of check.scan) lines goes.reached; state = state_of check.scan; reached = goes.reached; is = is };
  stops = stops;
}

pub no_line_bad : (case : Case) (check : LineCheck) (lines : List (List ℕ)) (here : List ℕ) (line : ℕ) (due : CertKind) → Goes case check lines → line ≡ check.taken + 1 → due ≡ check.scan.due
    → ¬ IsLine here → IsBadLine lines here line due
no_line_bad case check lines here line due goes number is none = bad_line case check lines here line due goes number is (λ begun. none (begun_is_line lines here begun))
