use Rattle.std.proofs.Common.{◌≡◌, ℕ, Option, Some, None, List, [], ◌∷◌, ◌++◌, length, map, refl, sym, ap, ◌∙◌, arith, append_assoc, append-nil, length-append}
use Rattle.std.specs.Prelude.{codes, IsSome}
use Rattle.coord_model.specs.Choice.{Settings}
use Rattle.coord_model.specs.Tree.{Tree, Single, empty, nodes_of}
use Rattle.coord_model.specs.declared.cert.StudyHead.{StudyHead}
use Rattle.cert_text.specs.CertData.{AreIssued, CertData, IsCert, IsHead}
use Rattle.cert_text.specs.CertText.{cert_lines, head_lines, opening, settings_line, study_line, ending_line, gap_line, budget_line, boxes_line, bound_line, cost_line}
use Rattle.cert_text.specs.Nodes.{node_line}
use Rattle.cert_text.specs.Scanning.{Begins, NodesTo, ReachedAt, State}
use Rattle.cert_text.specs.declared.kinds.CertHead.{CertHead}
use Rattle.cert_text.specs.declared.kinds.CertKind.{CertKind}
use Rattle.cert_text.specs.declared.kinds.CertKind.TheVariants as kind
use Rattle.cert_text.specs.Forests.{forest}
use Rattle.cert_text.proofs.Forests.{FitsDues, Grown, empties, empties_count, grow}
use Rattle.cert_text.proofs.HeadSteps.{body_lines, lines_are, tail_lines}

-- settings that may come
abbrev some_settings : Option ℕ → Option Settings
some_settings None = None
some_settings (Some cost) = Some (record { pickup = 0 ∷ []; dial = 0 ∷ [] })

are_issued : (cost : Option ℕ) → AreIssued cost (some_settings cost)
are_issued None = record { exactly = refl; within = tt }
are_issued (Some cost) = record {
  exactly = refl;
  within = record { paired = refl; some = omega arith; few = omega arith; pickups = (omega arith, tt); dials = (omega arith, tt) };
}

-- a certificate with this head
abbrev some_cert : CertHead → CertData
some_cert head = record { head = head; settings = some_settings head.cost; tree = empty }

is_cert : (head : CertHead) → IsHead head → IsCert (some_cert head)
is_cert head is = record {
  head = is;
  issued = are_issued head.cost;
  tree = record { paths = omega arith; nodes = omega arith; each = (refl, tt) };
}

-- lines behind the opening begin a certificate with their head
behind : (head : CertHead) → IsHead head → (lines xs more : List (List ℕ)) → lines ≡ opening head.study ++ xs → body_lines (some_cert head) ≡ xs ++ more → Begins lines
behind head is lines xs more before body = record {
  cert = some_cert head;
  is = is_cert head is;
  more = more;
  parts = lines_are (some_cert head) ∙ ap (λ l. opening head.study ++ l) body ∙ sym (append_assoc (opening head.study) xs more) ∙ ap (λ l. l ++ more) (sym before);
}

-- the line of the study is due
second : (head : CertHead) → IsHead head → (lines : List (List ℕ)) → lines ≡ codes "coord-certificate 2" ∷ [] → (study : Option StudyHead) → head.study ≡ study → IsSome study → Begins lines
second head is lines before None same some = absurd (cc some)
second head is lines before (Some study) same some = record {
  cert = some_cert head;
  is = is_cert head is;
  more = study_line study ∷ body_lines (some_cert head);
  parts = lines_are (some_cert head) ∙ ap (λ s. opening s ++ body_lines (some_cert head)) same ∙ ap (λ l. l ++ study_line study ∷ body_lines (some_cert head)) (sym before);
}

nodes_begin : (s : State) (lines : List (List ℕ)) → NodesTo s lines → Begins lines
nodes_begin s lines to = by_trees grown.trees grown.fits grown.parts
  where
    grown : Grown (0 ∷ []) to.nodes s.dues
    grown = grow (0 ∷ []) to.nodes s.dues (omega arith, tt) to.each to.leads

    map_both : (xs ys : List Single) → map node_line (xs ++ ys) ≡ map node_line xs ++ map node_line ys
    map_both [] ys = refl
    map_both (x ∷ xs) ys = ap (λ l. node_line x ∷ l) (map_both xs ys)

    by_trees : (trees : List Tree) → FitsDues (0 ∷ []) trees → forest trees ≡ to.nodes ++ forest (empties s.dues) → Begins lines
    by_trees [] fits parts = absurd fits
    by_trees (t ∷ u ∷ ts) fits parts = absurd fits.2
    by_trees (t ∷ []) fits parts =
        let rest = forest (empties s.dues) in
        let nodes : nodes_of t ≡ to.nodes ++ rest = sym (append-nil (nodes_of t)) ∙ parts in
        record {
          cert = record { head = s.head; settings = s.settings; tree = t };
          is = record {
            head = to.is;
            issued = to.issued;
            tree = record {
              paths = omega (arith, fits.0);
              nodes = omega (arith, ap length nodes, length-append to.nodes rest, empties_count s.dues, to.count, to.room);
              each = fits.1;
            };
          };
          more = map node_line rest ++ codes "end" ∷ [];
          parts = ap (λ l. head_lines s.head ++ settings_line s.settings ∷ (l ++ codes "end" ∷ [])) (ap (map node_line) nodes ∙ map_both to.nodes rest)
              ∙ ap (λ l. head_lines s.head ++ settings_line s.settings ∷ l) (append_assoc (map node_line to.nodes) (map node_line rest) (codes "end" ∷ []))
              ∙ sym (append_assoc (head_lines s.head) (settings_line s.settings ∷ map node_line to.nodes) (map node_line rest ++ codes "end" ∷ []))
              ∙ ap (λ l. l ++ (map node_line rest ++ codes "end" ∷ [])) (sym to.parts);
        }

-- what a scan has taken begins a certificate
pub begins_at : (due : CertKind) (s : State) (lines : List (List ℕ)) → ReachedAt due s lines → Begins lines
begins_at kind.Format s lines to = record { cert = some_cert s.head; is = is_cert s.head to.is; more = cert_lines (some_cert s.head); parts = ap (λ l. l ++ cert_lines (some_cert s.head)) (sym to.parts) }
begins_at kind.Study s lines to = second s.head to.is lines to.parts s.head.study refl to.study
begins_at kind.Ending s lines to = behind s.head to.is lines [] (body_lines (some_cert s.head)) (to.parts ∙ sym (append-nil (opening s.head.study))) refl
begins_at kind.Gap s lines to = behind s.head to.is lines (ending_line s.head.ending ∷ [])
    (gap_line s.head.gap ∷ budget_line s.head.budget ∷ boxes_line s.head.boxes ∷ bound_line s.head.bound ∷ cost_line s.head.cost ∷ tail_lines (some_cert s.head)) to.parts refl
begins_at kind.Budget s lines to = behind s.head to.is lines (ending_line s.head.ending ∷ gap_line s.head.gap ∷ [])
    (budget_line s.head.budget ∷ boxes_line s.head.boxes ∷ bound_line s.head.bound ∷ cost_line s.head.cost ∷ tail_lines (some_cert s.head)) to.parts refl
begins_at kind.Boxes s lines to = behind s.head to.is lines (ending_line s.head.ending ∷ gap_line s.head.gap ∷ budget_line s.head.budget ∷ [])
    (boxes_line s.head.boxes ∷ bound_line s.head.bound ∷ cost_line s.head.cost ∷ tail_lines (some_cert s.head)) to.parts refl
begins_at kind.Bound s lines to = behind s.head to.is lines (ending_line s.head.ending ∷ gap_line s.head.gap ∷ budget_line s.head.budget ∷ boxes_line s.head.boxes ∷ [])
    (bound_line s.head.bound ∷ cost_line s.head.cost ∷ tail_lines (some_cert s.head)) to.parts refl
begins_at kind.Cost s lines to = behind s.head to.is lines (ending_line s.head.ending ∷ gap_line s.head.gap ∷ budget_line s.head.budget ∷ boxes_line s.head.boxes ∷ bound_line s.head.bound ∷ [])
    (cost_line s.head.cost ∷ tail_lines (some_cert s.head)) to.parts refl
begins_at kind.Settings s lines to = behind s.head to.is lines
    (ending_line s.head.ending ∷ gap_line s.head.gap ∷ budget_line s.head.budget ∷ boxes_line s.head.boxes ∷ bound_line s.head.bound ∷ cost_line s.head.cost ∷ [])
    (tail_lines (some_cert s.head)) to.parts refl
begins_at kind.Node s lines to = nodes_begin s lines to.0
begins_at kind.End s lines to = nodes_begin s lines to.0
begins_at kind.After s lines to = record { cert = to.cert; is = to.is; more = []; parts = sym to.text ∙ sym (append-nil lines) }
