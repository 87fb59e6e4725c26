use Rattle.std.proofs.Common.{◌≡◌, ◌≢◌, ℕ, ◌^◌, ◌≤◌, Option, Some, None, List, [], ◌∷◌, ◌++◌, map, ◌==◌, not, Bool, true, false, sym, ap, subst, ◌∙◌, append_assoc, append-nil}
use Rattle.std.specs.List.{list_all}
use Rattle.std.specs.Prelude.{codes}
use Rattle.std.proofs.lemmas.List.{append_cancel_left}
use Rattle.coord_model.specs.Tree.{nodes_of}
use Rattle.coord_model.specs.declared.choice.Ending.{Ending}
use Rattle.coord_model.specs.declared.cert.StudyHead.{StudyHead}
use Rattle.coord_text.specs.Claims.{BoundGoesWith, CostGoesWith, IsShort, ending_word}
use Rattle.coord_text.proofs.SameWords.{same_ending}
use Rattle.cert_text.specs.CertData.{CertData}
use Rattle.cert_text.specs.CertText.{cert_lines, opening, settings_line, study_line, ending_line, gap_line, budget_line, boxes_line, bound_line, cost_line}
use Rattle.cert_text.specs.Nodes.{node_line}
use Rattle.cert_text.specs.HeadScan.{HeadTo}
use Rattle.cert_text.specs.Scanning.{Begins}
use Rattle.cert_text.specs.declared.kinds.CertHead.{CertHead}
use Rattle.cert_text.specs.declared.kinds.CertKind.TheVariants as kind

-- the lines after those of the opening
abbrev pub tail_lines : CertData → List (List ℕ)
tail_lines cert = settings_line cert.settings ∷ (map node_line (nodes_of cert.tree) ++ codes "end" ∷ [])

abbrev pub body_lines : CertData → List (List ℕ)
body_lines cert =
    ending_line cert.head.ending ∷ gap_line cert.head.gap ∷ budget_line cert.head.budget ∷ boxes_line cert.head.boxes
    ∷ bound_line cert.head.bound ∷ cost_line cert.head.cost ∷ tail_lines cert

pub lines_are : (cert : CertData) → cert_lines cert ≡ opening cert.head.study ++ body_lines cert
lines_are cert = append_assoc (opening cert.head.study)
    (ending_line cert.head.ending ∷ gap_line cert.head.gap ∷ budget_line cert.head.budget ∷ boxes_line cert.head.boxes ∷ bound_line cert.head.bound ∷ cost_line cert.head.cost ∷ [])
    (tail_lines cert)

-- the first lines of the two forms differ in a digit
abbrev has_no_two : List (List ℕ) → Bool
has_no_two [] = true
has_no_two (line ∷ lines) = list_all (λ b. not (b == 50)) line

pub first_is_not_second : (xs ys : List (List ℕ)) → codes "coord-certificate 1" ∷ xs ≢ codes "coord-certificate 2" ∷ ys
first_is_not_second xs ys same = let h : true ≡ false = ap has_no_two same in cc h

-- lines with an opening have one behind it
pub same_behind : (s t : Option StudyHead) (xs ys : List (List ℕ)) → opening s ++ xs ≡ opening t ++ ys → xs ≡ ys
same_behind None None xs ys same = cc same
same_behind None (Some t) xs ys same = absurd (first_is_not_second xs (study_line t ∷ ys) same)
same_behind (Some s) None xs ys same = absurd (first_is_not_second ys (study_line s ∷ xs) (sym same))
same_behind (Some s) (Some t) xs ys same = cc same

-- what a certificate has behind the opening, where it begins with these lines
pub body_is : (head : CertHead) (xs lines : List (List ℕ)) (line : List ℕ) → lines ≡ opening head.study ++ xs → (b : Begins (lines ++ line ∷ []))
    → body_lines b.cert ≡ xs ++ line ∷ b.more
body_is head xs lines line before b =
    same_behind b.cert.head.study head.study (body_lines b.cert) (xs ++ line ∷ b.more)
    (sym (lines_are b.cert) ∙ b.parts ∙ append_assoc lines (line ∷ []) b.more ∙ ap (λ l. l ++ line ∷ b.more) before ∙ append_assoc (opening head.study) xs (line ∷ b.more))

-- the line of the ending
pub ending_stops : (head : CertHead) (line : List ℕ) → ((ending : Ending) → line ≢ ending_line ending) → (lines : List (List ℕ)) → lines ≡ opening head.study
    → ¬ Begins (lines ++ line ∷ [])
ending_stops head line none lines before b =
    let body = body_is head [] lines line (before ∙ sym (append-nil (opening head.study))) b in
    none b.cert.head.ending (cc body)

-- lines of endings have one ending
same_ending_line : (e f : Ending) → ending_line e ≡ ending_line f → e ≡ f
same_ending_line e f same = same_ending e f (append_cancel_left (codes "ending ") (ending_word e) (ending_word f) same)

pub bound_stops : (head : CertHead) (line : List ℕ) → ((n : Option ℕ) → IsShort n → BoundGoesWith head.ending n → line ≢ bound_line n) → (lines : List (List ℕ)) → HeadTo kind.Bound lines head
    → ¬ Begins (lines ++ line ∷ [])
bound_stops head line none lines to b =
    let body = body_is head (ending_line head.ending ∷ gap_line head.gap ∷ budget_line head.budget ∷ boxes_line head.boxes ∷ []) lines line to.parts b in
    let ending = same_ending_line b.cert.head.ending head.ending (cc body) in
    none b.cert.head.bound b.is.head.bound_short (subst (λ e. BoundGoesWith e b.cert.head.bound) ending b.is.head.bound_goes) (cc body)

pub cost_stops : (head : CertHead) (line : List ℕ) → ((n : Option ℕ) → IsShort n → CostGoesWith head.ending n → line ≢ cost_line n) → (lines : List (List ℕ)) → HeadTo kind.Cost lines head
    → ¬ Begins (lines ++ line ∷ [])
cost_stops head line none lines to b =
    let body = body_is head (ending_line head.ending ∷ gap_line head.gap ∷ budget_line head.budget ∷ boxes_line head.boxes ∷ bound_line head.bound ∷ []) lines line to.parts b in
    let ending = same_ending_line b.cert.head.ending head.ending (cc body) in
    none b.cert.head.cost b.is.head.cost_short (subst (λ e. CostGoesWith e b.cert.head.cost) ending b.is.head.cost_goes) (cc body)
