use Rattle.std.proofs.Common.{◌≡◌, ◌≢◌, ℕ, ◌+◌, ◌≤◌, List, [], ◌∷◌, ◌++◌, length, map, refl, sym, ap, subst, ◌∙◌, arith, append_assoc, append-nil, length-append}
use Rattle.std.specs.Prelude.{codes}
use Rattle.coord_model.specs.Tree.{Tree, Single, root, nodes_of}
use Rattle.cert_text.specs.CertData.{AreIssued, CertData, IsCert, IsHead}
use Rattle.cert_text.specs.CertText.{cert_lines, head_lines, opening, settings_line, ending_line, gap_line, budget_line, boxes_line, bound_line, cost_line}
use Rattle.cert_text.specs.DueNodes.{Leads, MayStand, Takes, due_after}
use Rattle.cert_text.specs.Nodes.{IsNode, node_line}
use Rattle.cert_text.specs.Scanning.{Begins, NodesTo, ReadWhole, State, lines_with}
use Rattle.cert_text.specs.Forests.{below, forest}
use Rattle.cert_text.proofs.Forests.{FitsDues, Grown, empties, grow, leads_more}
use Rattle.cert_text.proofs.HeadSteps.{body_lines, lines_are, same_behind}
use Rattle.cert_text.proofs.PairWords.{all_append}
use Rattle.cert_text.proofs.Walks.{Ahead, root_first, root_fits, walk}

-- the lines of the head before the settings, behind the opening
abbrev pub six_lines : State → List (List ℕ)
six_lines s =
    ending_line s.head.ending ∷ gap_line s.head.gap ∷ budget_line s.head.budget ∷ boxes_line s.head.boxes ∷ bound_line s.head.bound ∷ cost_line s.head.cost ∷ []

-- what a certificate that begins with these lines has ahead
pub ahead_of : (s : State) (lines rest : List (List ℕ)) (to : NodesTo s lines) (cert : CertData) → IsCert cert → cert_lines cert ≡ lines ++ rest → Ahead (cert.tree ∷ []) to.nodes s.dues rest
ahead_of s lines rest to cert is same =
    let read = settings_line s.settings ∷ map node_line to.nodes in
    let whole : lines ++ rest ≡ opening s.head.study ++ (six_lines s ++ (read ++ rest)) =
    ap (λ l. l ++ rest) to.parts ∙ append_assoc (head_lines s.head) read rest ∙ append_assoc (opening s.head.study) (six_lines s) (read ++ rest) in
    let body : body_lines cert ≡ six_lines s ++ (read ++ rest) =
    same_behind cert.head.study s.head.study (body_lines cert) (six_lines s ++ (read ++ rest)) (sym (lines_are cert) ∙ same ∙ whole) in
    let nodes : map node_line (nodes_of cert.tree) ++ codes "end" ∷ [] ≡ map node_line to.nodes ++ rest = cc body in
    walk (0 ∷ []) to.nodes s.dues (cert.tree ∷ []) rest (omega (arith, is.tree.paths), is.tree.each, tt) to.each to.leads
    (sym nodes ∙ ap (λ ns. map node_line ns ++ codes "end" ∷ []) (sym (append-nil (nodes_of cert.tree))))

-- the next node of a certificate that begins with these lines
pub record NextNode (s : State) (line : List ℕ) : Type 0 where
  pub node : Single
  pub is : IsNode node
  pub said : line ≡ node_line node
  pub above : ℕ
  pub others : List ℕ
  pub first : s.dues ≡ above ∷ others
  pub may : MayStand node.line above
  pub room : s.taken + 1 + length (due_after node.line above others) ≤ 400001

-- each due node has a node of its own
fits_count : (dues : List ℕ) (trees : List Tree) → FitsDues dues trees → length dues ≤ length (forest trees)
fits_count [] [] fits = omega arith
fits_count [] (t ∷ ts) fits = absurd fits
fits_count (d ∷ dues) [] fits = absurd fits
fits_count (d ∷ dues) (t ∷ ts) fits =
    omega (arith, fits_count dues ts fits.2, length-append (nodes_of t) (forest ts), some_nodes t)
  where
    some_nodes : (t : Tree) → 1 ≤ length (nodes_of t)
    some_nodes t = omega (arith, ap length (root_first t []), length-append (nodes_of t) [])

pub next_node : (s : State) (lines : List (List ℕ)) (line : List ℕ) → NodesTo s lines → s.dues ≢ [] → Begins (lines ++ line ∷ []) → NextNode s line
next_node s lines line to some b =
    let ahead = ahead_of s lines (line ∷ b.more) to b.cert b.is (b.parts ∙ append_assoc lines (line ∷ []) b.more) in
    by_dues s.dues refl ahead.left ahead.fits ahead.parts ahead.count
  where
    by_dues : (dues : List ℕ) → s.dues ≡ dues → (left : List Tree) → FitsDues s.dues left → line ∷ b.more ≡ map node_line (forest left) ++ codes "end" ∷ []
        → length (forest (b.cert.tree ∷ [])) ≡ length to.nodes + length (forest left) → NextNode s line
    by_dues [] is left fits parts count = absurd (some is)
    by_dues (d ∷ others) is [] fits parts count = absurd (subst (λ ds. FitsDues ds []) is fits)
    by_dues (d ∷ others) is (t ∷ ts) fits parts count =
        let fit = root_fits d others t ts (subst (λ ds. FitsDues ds (t ∷ ts)) is fits) in
        let lines : line ∷ b.more ≡ node_line (root t) ∷ (map node_line (forest (below t ++ ts)) ++ codes "end" ∷ []) =
        parts ∙ ap (λ ns. map node_line ns ++ codes "end" ∷ []) (root_first t ts) in
        record {
          node = root t;
          is = fit.is;
          said = cc lines;
          above = d;
          others = others;
          first = is;
          may = fit.may;
          room = omega (
            arith,
            to.count,
            count,
            ap length (root_first t ts),
            fits_count (due_after (root t).line d others) (below t ++ ts) fit.rest,
            b.is.tree.nodes,
            length-append (nodes_of b.cert.tree) [],
          );
        }

-- one more line of a node
pub map_more : (nodes : List Single) (node : Single) → map node_line (nodes ++ node ∷ []) ≡ map node_line nodes ++ node_line node ∷ []
map_more [] node = refl
map_more (n ∷ nodes) node = ap (λ l. node_line n ∷ l) (map_more nodes node)

-- the line of a node that may stand there
pub node_goes : (s later : State) (lines : List (List ℕ)) (line : List ℕ) (node : Single) → later.head ≡ s.head → later.settings ≡ s.settings → IsNode node → line ≡ node_line node
    → Takes node.line s.dues s.taken later.dues later.taken → NodesTo s lines → NodesTo later (lines ++ line ∷ [])
node_goes s later lines line node head settings is said takes to = record {
  is = subst IsHead (sym head) to.is;
  issued = subst (λ h. AreIssued h.cost later.settings) (sym head) (subst (AreIssued s.head.cost) (sym settings) to.issued);
  nodes = to.nodes ++ node ∷ [];
  each = all_append IsNode to.nodes (node ∷ []) to.each (is, tt);
  leads = subst (Leads (0 ∷ []) (to.nodes ++ node ∷ [])) (sym takes.dues)
      (leads_more (0 ∷ []) to.nodes takes.above takes.others node (subst (Leads (0 ∷ []) to.nodes) takes.first to.leads) takes.may);
  count = omega (arith, length-append to.nodes (node ∷ []), to.count, takes.counted);
  room = takes.room;
  parts = ap (λ l. l ++ line ∷ []) to.parts
      ∙ append_assoc (head_lines s.head) (settings_line s.settings ∷ map node_line to.nodes) (line ∷ [])
      ∙ ap (λ l. head_lines s.head ++ settings_line s.settings ∷ (map node_line to.nodes ++ l ∷ [])) said
      ∙ ap (λ l. head_lines s.head ++ settings_line s.settings ∷ l) (sym (map_more to.nodes node))
      ∙ ap (λ h. head_lines h ++ settings_line s.settings ∷ map node_line (to.nodes ++ node ∷ [])) (sym head)
      ∙ ap (λ t. head_lines later.head ++ settings_line t ∷ map node_line (to.nodes ++ node ∷ [])) (sym settings);
}

-- the last line
pub end_stops : (s : State) (lines : List (List ℕ)) (line : List ℕ) → line ≢ codes "end" → NodesTo s lines → s.dues ≡ [] → ¬ Begins (lines ++ line ∷ [])
end_stops s lines line not to none b =
    let ahead = ahead_of s lines (line ∷ b.more) to b.cert b.is (b.parts ∙ append_assoc lines (line ∷ []) b.more) in
    by_left ahead.left (subst (λ ds. FitsDues ds ahead.left) none ahead.fits) ahead.parts
  where
    by_left : (left : List Tree) → FitsDues [] left → line ∷ b.more ≡ map node_line (forest left) ++ codes "end" ∷ [] → ⊥
    by_left [] fits parts = not (cc parts)
    by_left (t ∷ ts) fits parts = absurd fits

-- nothing follows it
pub after_stops : (s : State) (lines : List (List ℕ)) (line : List ℕ) → ReadWhole s lines → ¬ Begins (lines ++ line ∷ [])
after_stops s lines line whole b =
    let rest = codes "end" ∷ line ∷ b.more in
    let ahead = ahead_of s whole.before rest whole.read b.cert b.is
    (b.parts ∙ ap (λ l. (l ++ line ∷ []) ++ b.more) whole.parts ∙ append_assoc (whole.before ++ codes "end" ∷ []) (line ∷ []) b.more ∙ append_assoc whole.before (codes "end" ∷ []) (line ∷ b.more)) in
    by_left ahead.left (subst (λ ds. FitsDues ds ahead.left) whole.none ahead.fits) ahead.parts
  where
    by_left : (left : List Tree) → FitsDues [] left → codes "end" ∷ line ∷ b.more ≡ map node_line (forest left) ++ codes "end" ∷ [] → ⊥
    by_left [] fits parts = omega (arith, ap length parts)
    by_left (t ∷ ts) fits parts = absurd fits

-- the certificate of lines that are read whole
pub end_goes : (s later : State) (lines : List (List ℕ)) (line : List ℕ) → later.head ≡ s.head → later.settings ≡ s.settings → later.dues ≡ s.dues → later.taken ≡ s.taken
    → line ≡ codes "end" → NodesTo s lines → s.dues ≡ [] → ReadWhole later (lines ++ line ∷ [])
end_goes s later lines line head settings dues taken said to none =
    by_trees grown.trees grown.fits grown.parts
  where
    grown : Grown (0 ∷ []) to.nodes s.dues
    grown = grow (0 ∷ []) to.nodes s.dues (omega arith, tt) to.each to.leads

    same : NodesTo later lines
    same = record {
      is = subst IsHead (sym head) to.is;
      issued = subst (λ h. AreIssued h.cost later.settings) (sym head) (subst (AreIssued s.head.cost) (sym settings) to.issued);
      nodes = to.nodes;
      each = to.each;
      leads = subst (Leads (0 ∷ []) to.nodes) (sym dues) to.leads;
      count = to.count ∙ sym taken;
      room = subst (λ ds. later.taken + length ds ≤ 400001) (sym dues) (subst (λ n. n + length s.dues ≤ 400001) (sym taken) to.room);
      parts = to.parts ∙ ap (λ h. head_lines h ++ settings_line s.settings ∷ map node_line to.nodes) (sym head)
          ∙ ap (λ t. head_lines later.head ++ settings_line t ∷ map node_line to.nodes) (sym settings);
    }

    by_trees : (trees : List Tree) → FitsDues (0 ∷ []) trees → forest trees ≡ to.nodes ++ forest (empties s.dues) → ReadWhole later (lines ++ line ∷ [])
    by_trees [] fits parts = absurd fits
    by_trees (t ∷ u ∷ ts) fits parts = absurd fits.2
    by_trees (t ∷ []) fits parts =
        let nodes : nodes_of t ≡ to.nodes = sym (append-nil (nodes_of t)) ∙ parts ∙ ap (λ ds. to.nodes ++ forest (empties ds)) none ∙ append-nil to.nodes in
        record {
          cert = record { head = later.head; settings = later.settings; tree = t };
          is = record {
            head = same.is;
            issued = same.issued;
            tree = record {
              paths = omega (arith, fits.0);
              nodes = omega (arith, ap length nodes, to.count, to.room);
              each = fits.1;
            };
          };
          head = refl;
          settings = refl;
          text = ap (λ l. l ++ line ∷ []) same.parts ∙ ap (λ l. lines_with later to.nodes ++ l ∷ []) said
              ∙ append_assoc (head_lines later.head) (settings_line later.settings ∷ map node_line to.nodes) (codes "end" ∷ [])
              ∙ ap (λ ns. head_lines later.head ++ settings_line later.settings ∷ (map node_line ns ++ codes "end" ∷ [])) (sym nodes);
          before = lines;
          read = same;
          none = dues ∙ none;
          parts = ap (λ l. lines ++ l ∷ []) said;
        }
