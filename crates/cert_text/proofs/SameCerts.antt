use Rattle.std.proofs.Common.{◌≡◌, ℕ, ◌^◌, ◌<◌, is_some, Option, Some, None, List, [], ◌∷◌, ◌++◌, map, Result, Ok, Err, refl, sym, ap, ◌∙◌, arith}
use Rattle.std.specs.Fmt.{decimal}
use Rattle.std.specs.List.{AllByRecursion}
use Rattle.std.specs.Prelude.{codes, IfOk, IfSome}
use Rattle.std.proofs.lemmas.Fmt.{decimal_injective}
use Rattle.std.proofs.lemmas.List.{append_cancel_left}
use Rattle.coord_model.specs.Choice.{Settings}
use Rattle.coord_model.specs.Tree.{Single, nodes_of}
use Rattle.coord_model.specs.declared.cert.StudyHead.{StudyHead}
use Rattle.coord_text.specs.Claims.{amount, ending_word}
use Rattle.coord_text.proofs.SameWords.{same_amount, same_ending}
use Rattle.cert_text.specs.CertData.{AreSettings, CertData, IsCert, IsStudyHead}
use Rattle.cert_text.specs.CertText.{cert_lines, cert_text, opening, settings_line, step_words, study_line, ending_line, gap_line, budget_line, boxes_line, bound_line, cost_line}
use Rattle.cert_text.specs.Nodes.{IsNode, node_line}
use Rattle.cert_text.specs.declared.kinds.CertHead.{CertHead}
use Rattle.cert_text.proofs.CertLines.{cert_are_lines, same_lines}
use Rattle.cert_text.proofs.Cuts.{same_number}
use Rattle.cert_text.proofs.HeadSteps.{body_lines, first_is_not_second, lines_are, same_behind}
use Rattle.cert_text.proofs.PairWords.{same_words}
use Rattle.cert_text.proofs.SameNodes.{node_is_not_end, same_node}
use Rattle.cert_text.proofs.SameTrees.{same_tree}
use Rattle.cert_text.proofs.ScanSteps.{dials_of_paired, paired, rows_of_paired, within_paired, words_paired}

-- a study has a line of its own
same_study_line : (s t : StudyHead) → IsStudyHead s → IsStudyHead t → study_line s ≡ study_line t → s ≡ t
same_study_line s t of_s of_t same =
    let words = append_cancel_left (codes "study ") (decimal s.format ++ (32 ∷ (decimal s.relays ++ 32 ∷ decimal s.rows))) (decimal t.format ++ (32 ∷ (decimal t.relays ++ 32 ∷ decimal t.rows))) same in
    let formats = same_number s.format t.format (32 ∷ (decimal s.relays ++ 32 ∷ decimal s.rows)) (32 ∷ (decimal t.relays ++ 32 ∷ decimal t.rows))
    (omega (arith, of_s.format)) (omega (arith, of_t.format)) refl refl words in
    let behind : decimal s.relays ++ 32 ∷ decimal s.rows ≡ decimal t.relays ++ 32 ∷ decimal t.rows = cc formats.1 in
    let relays = same_number s.relays t.relays (32 ∷ decimal s.rows) (32 ∷ decimal t.rows) (omega (arith, of_s.relays)) (omega (arith, of_t.relays)) refl refl behind in
    let last : decimal s.rows ≡ decimal t.rows = cc relays.1 in
    let rows = decimal_injective s.rows t.rows (omega (arith, of_s.rows)) (omega (arith, of_t.rows)) last in
    ap (λ n. record { format = n; relays = s.relays; rows = s.rows }) formats.0
    ∙ ap (λ n. record { format = t.format; relays = n; rows = s.rows }) relays.0
    ∙ ap (λ n. record { format = t.format; relays = t.relays; rows = n }) rows

same_study : (s t : Option StudyHead) (xs ys : List (List ℕ)) → IfSome s IsStudyHead → IfSome t IsStudyHead → opening s ++ xs ≡ opening t ++ ys → s ≡ t
same_study None None xs ys of_s of_t same = refl
same_study None (Some t) xs ys of_s of_t same = absurd (first_is_not_second xs (study_line t ∷ ys) same)
same_study (Some s) None xs ys of_s of_t same = absurd (first_is_not_second ys (study_line s ∷ xs) (sym same))
same_study (Some s) (Some t) xs ys of_s of_t same = ap Some (same_study_line s t of_s of_t (cc same))

-- steps have words of their own
same_steps : (s t : Settings) → AreSettings s → AreSettings t → step_words s.pickup s.dial ≡ step_words t.pickup t.dial → s ≡ t
same_steps s t of_s of_t same =
    let pairs = same_words 63 3999 (omega arith) (omega arith) (paired s.pickup s.dial) (paired t.pickup t.dial)
    (within_paired s.pickup s.dial of_s.pickups of_s.dials) (within_paired t.pickup t.dial of_t.pickups of_t.dials)
    (sym (words_paired s.pickup s.dial) ∙ same ∙ words_paired t.pickup t.dial) in
    let pickups = sym (rows_of_paired s.pickup s.dial of_s.paired) ∙ ap (λ ws. map (λ w. w.row) ws) pairs ∙ rows_of_paired t.pickup t.dial of_t.paired in
    let dials = sym (dials_of_paired s.pickup s.dial of_s.paired) ∙ ap (λ ws. map (λ w. w.weight) ws) pairs ∙ dials_of_paired t.pickup t.dial of_t.paired in
    ap (λ p. record { pickup = p; dial = s.dial }) pickups ∙ ap (λ d. record { pickup = t.pickup; dial = d }) dials

same_settings : (s t : Option Settings) → is_some s ≡ is_some t → IfSome s AreSettings → IfSome t AreSettings → settings_line s ≡ settings_line t → s ≡ t
same_settings None None some of_s of_t same = refl
same_settings None (Some t) some of_s of_t same = absurd (cc some)
same_settings (Some s) None some of_s of_t same = absurd (cc some)
same_settings (Some s) (Some t) some of_s of_t same =
    ap Some (same_steps s t of_s of_t (append_cancel_left (codes "settings") (step_words s.pickup s.dial) (step_words t.pickup t.dial) same))

-- nodes up to the last line
pub same_nodes : (ns ms : List Single) → AllByRecursion IsNode ns → AllByRecursion IsNode ms → map node_line ns ++ codes "end" ∷ [] ≡ map node_line ms ++ codes "end" ∷ [] → ns ≡ ms
same_nodes [] [] of_ns of_ms same = refl
same_nodes [] (m ∷ ms) of_ns of_ms same = absurd (node_is_not_end m.line m.weights (sym (cc same)))
same_nodes (n ∷ ns) [] of_ns of_ms same = absurd (node_is_not_end n.line n.weights (cc same))
same_nodes (n ∷ ns) (m ∷ ms) of_ns of_ms same =
    let first : node_line n ≡ node_line m = cc same in
    ap (λ k. k ∷ ns) (same_node n m of_ns.0 of_ms.0 first) ∙ ap (λ l. m ∷ l) (same_nodes ns ms of_ns.1 of_ms.1 (cc same))

-- a number behind a label
same_count : (label : List ℕ) (m n : ℕ) → m < 2 ^ 64 → n < 2 ^ 64 → label ++ decimal m ≡ label ++ decimal n → m ≡ n
same_count label m n of_m of_n same = decimal_injective m n of_m of_n (append_cancel_left label (decimal m) (decimal n) same)

-- what is the same in all parts is the same
same_head : (g h : CertHead) → g.study ≡ h.study → g.ending ≡ h.ending → g.gap ≡ h.gap → g.budget ≡ h.budget → g.boxes ≡ h.boxes → g.bound ≡ h.bound → g.cost ≡ h.cost → g ≡ h
same_head g h study ending gap budget boxes bound cost =
    ap (λ x. record { study = x; ending = g.ending; gap = g.gap; budget = g.budget; boxes = g.boxes; bound = g.bound; cost = g.cost }) study
    ∙ ap (λ x. record { study = h.study; ending = x; gap = g.gap; budget = g.budget; boxes = g.boxes; bound = g.bound; cost = g.cost }) ending
    ∙ ap (λ x. record { study = h.study; ending = h.ending; gap = x; budget = g.budget; boxes = g.boxes; bound = g.bound; cost = g.cost }) gap
    ∙ ap (λ x. record { study = h.study; ending = h.ending; gap = h.gap; budget = x; boxes = g.boxes; bound = g.bound; cost = g.cost }) budget
    ∙ ap (λ x. record { study = h.study; ending = h.ending; gap = h.gap; budget = h.budget; boxes = x; bound = g.bound; cost = g.cost }) boxes
    ∙ ap (λ x. record { study = h.study; ending = h.ending; gap = h.gap; budget = h.budget; boxes = h.boxes; bound = x; cost = g.cost }) bound
    ∙ ap (λ x. record { study = h.study; ending = h.ending; gap = h.gap; budget = h.budget; boxes = h.boxes; bound = h.bound; cost = x }) cost

pub same_data : (a b : CertData) → a.head ≡ b.head → a.settings ≡ b.settings → a.tree ≡ b.tree → a ≡ b
same_data a b head settings tree =
    ap (λ x. record { head = x; settings = a.settings; tree = a.tree }) head
    ∙ ap (λ x. record { head = b.head; settings = x; tree = a.tree }) settings
    ∙ ap (λ x. record { head = b.head; settings = b.settings; tree = x }) tree

-- a certificate has a text of its own
pub same_cert : (a b : CertData) → IsCert a → IsCert b → cert_text a ≡ cert_text b → a ≡ b
same_cert a b of_a of_b same =
    let lines = same_lines (cert_lines a) (cert_lines b) (cert_are_lines a of_a) (cert_are_lines b of_b) same in
    let both : opening a.head.study ++ body_lines a ≡ opening b.head.study ++ body_lines b = sym (lines_are a) ∙ lines ∙ lines_are b in
    let body : body_lines a ≡ body_lines b = same_behind a.head.study b.head.study (body_lines a) (body_lines b) both in
    let study = same_study a.head.study b.head.study (body_lines a) (body_lines b) of_a.head.study of_b.head.study both in
    let of_ending : ending_line a.head.ending ≡ ending_line b.head.ending = cc body in
    let of_gap : gap_line a.head.gap ≡ gap_line b.head.gap = cc body in
    let of_budget : budget_line a.head.budget ≡ budget_line b.head.budget = cc body in
    let of_boxes : boxes_line a.head.boxes ≡ boxes_line b.head.boxes = cc body in
    let of_bound : bound_line a.head.bound ≡ bound_line b.head.bound = cc body in
    let of_cost : cost_line a.head.cost ≡ cost_line b.head.cost = cc body in
    let of_settings : settings_line a.settings ≡ settings_line b.settings = cc body in
    let of_nodes : map node_line (nodes_of a.tree) ++ codes "end" ∷ [] ≡ map node_line (nodes_of b.tree) ++ codes "end" ∷ [] = cc body in
    let ending = same_ending a.head.ending b.head.ending (append_cancel_left (codes "ending ") (ending_word a.head.ending) (ending_word b.head.ending) of_ending) in
    let gap = same_count (codes "gap ") a.head.gap b.head.gap (omega (arith, of_a.head.gap)) (omega (arith, of_b.head.gap)) of_gap in
    let budget = same_count (codes "budget ") a.head.budget b.head.budget (omega (arith, of_a.head.budget)) (omega (arith, of_b.head.budget)) of_budget in
    let boxes = same_count (codes "boxes ") a.head.boxes b.head.boxes (omega (arith, of_a.head.boxes)) (omega (arith, of_b.head.boxes)) of_boxes in
    let bound = same_amount a.head.bound b.head.bound of_a.head.bound_short of_b.head.bound_short (append_cancel_left (codes "bound ") (amount a.head.bound) (amount b.head.bound) of_bound) in
    let cost = same_amount a.head.cost b.head.cost of_a.head.cost_short of_b.head.cost_short (append_cancel_left (codes "cost ") (amount a.head.cost) (amount b.head.cost) of_cost) in
    let settings = same_settings a.settings b.settings (of_a.issued.exactly ∙ ap is_some cost ∙ sym of_b.issued.exactly) of_a.issued.within of_b.issued.within of_settings in
    let tree = same_tree a.tree b.tree (same_nodes (nodes_of a.tree) (nodes_of b.tree) of_a.tree.each of_b.tree.each of_nodes) in
    same_data a b (same_head a.head b.head study ending gap budget boxes bound cost) settings tree

-- what is made as its text is the text of no other
pub only_text : {V E : Type 0} (made : Result V E) (items : V → List ℕ) (cert : CertData) → IsCert cert → IfOk made (λ v. items v ≡ cert_text cert)
    → IfOk made (λ v. (other : CertData) → IsCert other → items v ≡ cert_text other → cert ≡ other)
only_text (Ok v) items cert is text = λ other of_other same. same_cert cert other is of_other (sym text ∙ same)
only_text (Err e) items cert is text = tt
