use Rattle.std.proofs.Common.{◌≡◌, ◌≢◌, ℕ, ◌+◌, ◌≤◌, false, Some, None, List, [], ◌∷◌, ◌++◌, Result, Ok, Err, sym, ap, subst, ◌∙◌, arith, length-append}
use Rattle.std.specs.Option.{option_map}
use Rattle.std.specs.Result.{IsErrAnd}
use Rattle.std.specs.Prelude.{IfErr}
use Rattle.coord_model.specs.Choice.{choice_data}
use Rattle.coord_model.specs.Tree.{Single, shape}
use Rattle.coord_model.specs.declared.cert.Cert.{Cert}
use Rattle.coord_model.specs.declared.tree.NodeLine.{NodeLine}
use Rattle.coord_model.specs.declared.weights.Weight.{Weight}
use Rattle.coord_text.specs.Claims.{text_of}
use Rattle.coord_text.specs.Lines.{IsLine}
use Rattle.coord_text.proofs.TextSteps.{text_step}
use Rattle.cert_text.specs.CertData.{CertData, IsCert, cert_data, head_of}
use Rattle.cert_text.specs.CertText.{cert_text}
use Rattle.cert_text.specs.DueNodes.{Leads}
use Rattle.cert_text.specs.Growth.{nodes_grown}
use Rattle.cert_text.specs.Reading.{AreWith, AreWithEnd, HasRead, HasReadWhole, HasTaken, HaveNodes, IsLineRefusal}
use Rattle.cert_text.specs.ScanState.{Follows, IsItem, settings_with, state_of, weights_of}
use Rattle.cert_text.specs.Scanning.{ReadWhole, Reached, ReachedAt}
use Rattle.cert_text.specs.Stops.{IsRefusalOf, StopsAt}
use Rattle.cert_text.specs.declared.kinds.CertItem.TheVariants as item
use Rattle.cert_text.specs.declared.kinds.CertKind.TheVariants as kind
use Rattle.cert_text.specs.declared.reading.Reading.{Reading}
use Rattle.cert_text.specs.declared.refusal.CertRefusal.{CertRefusal}
use Rattle.cert_text.specs.declared.refusal.CertRefusal.TheVariants.{Fault, NoMemory}
use Rattle.cert_text.proofs.Beginnings.{begins_at}
use Rattle.cert_text.proofs.CertStops.{begins_few, line_stops, missing_stops}
use Rattle.cert_text.proofs.GrownTrees.{Whole, is_whole, still_grows}
use Rattle.cert_text.proofs.PairWords.{all_append}
use Rattle.cert_text.proofs.SameCerts.{same_data}
use Rattle.cert_text.proofs.TakenLines.{cert_nodes, end_taken, front_taken, node_taken, nodes_are}

-- while a node is due, the tree grows
pub grows : (reading : Reading) (lines : List (List ℕ)) → HasTaken reading lines → reading.scan.due ≡ kind.Node → reading.tree.tree ≡ None
grows reading lines taken is =
    let s = state_of reading.scan in
    let to : ReachedAt kind.Node s lines = subst (λ k. ReachedAt k s lines) is taken.reached in
    let are : AreWith s lines (nodes_grown reading.tree) = subst (λ k. HaveNodes k s lines (nodes_grown reading.tree)) is taken.nodes in
    still_grows reading.tree s.dues (subst (λ ns. Leads (0 ∷ []) ns s.dues) (nodes_are s lines (nodes_grown reading.tree) are to.0) to.0.leads) to.1

module _ (before after : Reading) (lines : List (List ℕ)) (line : List ℕ) (open_still : after.scan.refused ≡ false)
    (reached : Reached (state_of after.scan) (lines ++ line ∷ [])) (taken : HasTaken before lines)
  where
    -- a node is taken
    pub node_goes_on : (node : NodeLine) (weights : List Weight) → IsItem (item.Node node) (state_of before.scan) (state_of after.scan) (weights_of after.scan) line
        → Follows (item.Node node) (state_of before.scan) (state_of after.scan) line → weights ≡ weights_of after.scan
        → nodes_grown after.tree ≡ nodes_grown before.tree ++ record { line = node; weights = weights } ∷ [] → HasTaken after (lines ++ line ∷ [])
    node_goes_on node weights is follows same grown =
        let one : Single = record { line = node; weights = weights_of after.scan } in
        let more : nodes_grown after.tree ≡ nodes_grown before.tree ++ one ∷ [] = grown ∙ ap (λ ws. nodes_grown before.tree ++ record { line = node; weights = ws } ∷ []) same in
        record {
          going = open_still;
          reached = reached;
          nodes = subst (HaveNodes after.scan.due (state_of after.scan) (lines ++ line ∷ [])) (sym more)
              (node_taken before.scan.due after.scan.due (state_of before.scan) (state_of after.scan) lines line (nodes_grown before.tree) one is.0 follows.0 follows.1 taken.nodes is.1 is.2);
        }

    -- a line before the nodes is taken
    pub head_goes_on : IsItem item.Head (state_of before.scan) (state_of after.scan) (weights_of after.scan) line → Follows item.Head (state_of before.scan) (state_of after.scan) line
        → after.tree ≡ before.tree → HasTaken after (lines ++ line ∷ [])
    head_goes_on is follows same = record {
      going = open_still;
      reached = reached;
      nodes = subst (λ t. HaveNodes after.scan.due (state_of after.scan) (lines ++ line ∷ []) (nodes_grown t)) (sym same)
          (front_taken before.scan.due after.scan.due (state_of before.scan) (state_of after.scan) lines (lines ++ line ∷ []) (nodes_grown before.tree) is taken.nodes follows reached);
    }

    -- the last line is taken
    pub end_goes_on : IsItem item.End (state_of before.scan) (state_of after.scan) (weights_of after.scan) line → Follows item.End (state_of before.scan) (state_of after.scan) line
        → after.tree ≡ before.tree → HasTaken after (lines ++ line ∷ [])
    end_goes_on is follows same = record {
      going = open_still;
      reached = reached;
      nodes = subst (λ t. HaveNodes after.scan.due (state_of after.scan) (lines ++ line ∷ []) (nodes_grown t)) (sym same)
          (end_taken before.scan.due after.scan.due (state_of before.scan) (state_of after.scan) lines line (nodes_grown before.tree) is.0 is.1 follows.1 taken.nodes follows.0);
    }

-- a refusal that is handed on
pub handed_on : {A : Type 0} (P : CertRefusal → Type 0) (r : Result A CertRefusal) (refusal : CertRefusal) → IsErrAnd r (λ e. e ≡ refusal) → P refusal → IfErr r P
handed_on P (Ok read) refusal given holds = tt
handed_on P (Err e) refusal given holds = subst P (sym given) holds

-- a refused line is where the bytes stop
pub line_refused : (bytes left line rest : List ℕ) (reading : Reading) (number : ℕ) → HasRead bytes reading number left → IsLine line → left ≡ line ++ 10 ∷ rest
    → (refusal : CertRefusal) → IsLineRefusal reading number line refusal → IsRefusalOf bytes refusal
line_refused bytes left line rest reading number read of_line stands (Fault at due) stops =
    subst (StopsAt bytes at) (sym stops.1)
    (line_stops bytes left line rest (state_of reading.scan) read.lines read.each read.parts read.taken.reached of_line stands (stops.2 read.lines read.taken) at (stops.0 ∙ read.number))
line_refused bytes left line rest reading number read of_line stands NoMemory stops = tt

-- and so is a missing line
pub missing_refused : (bytes left : List ℕ) (reading : Reading) (number : ℕ) → HasRead bytes reading number left → (left ≡ [] → reading.scan.due ≢ kind.After)
    → ((line rest : List ℕ) → IsLine line → left ≢ line ++ 10 ∷ rest) → StopsAt bytes number reading.scan.due
missing_refused bytes left reading number read ends none =
    missing_stops bytes left (state_of reading.scan) read.lines read.each read.parts read.taken.reached ends none number read.number

-- few lines are read
pub few_read : (bytes left : List ℕ) (reading : Reading) (number : ℕ) → HasRead bytes reading number left → number ≤ 400012
few_read bytes left reading number read = omega (arith, read.number, begins_few read.lines (begins_at reading.scan.due (state_of reading.scan) read.lines read.taken.reached))

-- one line more is read
pub reads_on : (bytes left line rest : List ℕ) (before after : Reading) (number : ℕ) → (read : HasRead bytes before number left) → IsLine line → left ≡ line ++ 10 ∷ rest
    → ((lines : List (List ℕ)) → HasTaken before lines → HasTaken after (lines ++ line ∷ [])) → HasRead bytes after (number + 1) rest
reads_on bytes left line rest before after number read of_line stands goes = record {
  lines = read.lines ++ line ∷ [];
  each = all_append IsLine read.lines (line ∷ []) read.each (of_line, tt);
  parts = read.parts ∙ ap (λ w. text_of read.lines ++ w) stands ∙ sym (text_step read.lines line rest);
  number = omega (arith, read.number, length-append read.lines (line ∷ []));
  taken = goes read.lines read.taken;
}

-- the certificate of what is read whole
pub record Finished (bytes : List ℕ) (reading : Reading) : Type 0 where
  pub cert : CertData
  pub is : IsCert cert
  pub text : bytes ≡ cert_text cert
  pub head : reading.scan.head ≡ cert.head
  pub settings : settings_with reading.scan.head.cost reading.scan.choice ≡ cert.settings
  pub tree : Whole reading.tree cert.tree

pub finished : (bytes : List ℕ) (reading : Reading) → HasReadWhole bytes reading → Finished bytes reading
finished bytes reading read =
    let s = state_of reading.scan in
    let nodes = nodes_grown reading.tree in
    let whole : ReadWhole s read.lines = subst (λ k. ReachedAt k s read.lines) read.whole read.taken.reached in
    let are : AreWithEnd s read.lines nodes = subst (λ k. HaveNodes k s read.lines nodes) read.whole read.taken.nodes in
    record {
      cert = whole.cert;
      is = whole.is;
      text = read.parts ∙ ap text_of whole.text;
      head = whole.head;
      settings = whole.settings;
      tree = is_whole reading.tree whole.cert.tree (cert_nodes s read.lines nodes are whole.cert whole.is whole.head whole.settings whole.text);
    }

pub cert_is : (bytes : List ℕ) (reading : Reading) (done : Finished bytes reading) (cert : Cert) → head_of cert ≡ reading.scan.head
    → option_map choice_data cert.choice ≡ settings_with reading.scan.head.cost reading.scan.choice → reading.tree.tree ≡ Some cert.tree → cert_data cert ≡ done.cert
cert_is bytes reading done cert head settings tree =
    let node : done.tree.node ≡ cert.tree = cc (sym done.tree.is ∙ tree) in
    same_data (cert_data cert) done.cert (head ∙ done.head) (settings ∙ done.settings) (ap shape (sym node) ∙ done.tree.same)
