use Rattle.std.proofs.Common.{◌≡◌, ℕ, ◌-◌, ◌^◌, ◌<◌, ◌≤◌, true, Option, Some, None, List, [], ◌∷◌, ◌++◌, length, map, refl, sym, ap, ◌∙◌, arith, append_assoc, length-append}
use Rattle.std.specs.Fmt.{decimal}
use Rattle.std.specs.List.{AllByRecursion, list_all}
use Rattle.std.specs.Prelude.{codes, IfSome}
use Rattle.std.proofs.lemmas.Bool.Decides.{nat_tests}
use Rattle.std.proofs.lemmas.List.Folds.{list_all-append}
use Rattle.coord_model.specs.Choice.{Settings}
use Rattle.coord_model.specs.Tree.{Single, nodes_of}
use Rattle.coord_model.specs.declared.cert.StudyHead.{StudyHead}
use Rattle.coord_model.specs.declared.tree.NodeLine.{NodeLine}
use Rattle.coord_model.specs.declared.tree.NodeLine.TheVariants.{Split, Empty, Void, Bound, Hair, OpenLeaf}
use Rattle.coord_model.specs.declared.weights.Weight.{Weight}
use Rattle.coord_text.specs.Claims.{text_of}
use Rattle.coord_text.specs.Lines.{IsLine, is_printable}
use Rattle.coord_text.proofs.Breaks.{same_first_line}
use Rattle.coord_text.proofs.ClaimLines.{amount_is_line, ending_is_line}
use Rattle.coord_text.proofs.Digits.{decimal-pass}
use Rattle.cert_text.specs.CertData.{AreSettings, CertData, IsCert, IsHead, IsStudyHead}
use Rattle.cert_text.specs.CertText.{cert_lines, head_lines, opening, settings_line, step_words, study_line, ending_line, gap_line, budget_line, boxes_line, bound_line, cost_line}
use Rattle.cert_text.specs.Nodes.{IsNode, IsNodeWith, node_line, pair_word, weight_words, words_with}
use Rattle.cert_text.specs.Pairs.{AreWithin}
use Rattle.cert_text.specs.declared.kinds.CertHead.{CertHead}
use Rattle.cert_text.proofs.LineLengths.{count_short, node_short, settings_short, study_short}
use Rattle.cert_text.proofs.PairWords.{all_append}

-- bytes that are printed, one text after the other
prints_both : (xs ys : List ℕ) → list_all is_printable xs ≡ true → list_all is_printable ys ≡ true → list_all is_printable (xs ++ ys) ≡ true
prints_both xs ys of_xs of_ys = rw (list_all-append is_printable xs ys, of_xs, of_ys) refl

number_prints : (n : ℕ) → n < 2 ^ 64 → list_all is_printable (decimal n) ≡ true
number_prints n small = decimal-pass is_printable (λ b digit. grind (arith, nat_tests)) n small

pair_prints : (a b : ℕ) → a < 2 ^ 64 → b < 2 ^ 64 → list_all is_printable (pair_word a b) ≡ true
pair_prints a b of_a of_b = prints_both (decimal a) (58 ∷ decimal b) (number_prints a of_a) (number_prints b of_b)

weights_print : (ws : List Weight) → AreWithin 4095 (2 ^ 32 - 1) ws → list_all is_printable (weight_words ws) ≡ true
weights_print [] within = refl
weights_print (w ∷ ws) within =
    prints_both (pair_word w.row w.weight) (weight_words ws) (pair_prints w.row w.weight (omega (arith, within.0)) (omega (arith, within.0))) (weights_print ws within.1)

steps_print : (ps ds : List ℕ) → AllByRecursion (λ s. s ≤ 63) ps → AllByRecursion (λ s. s ≤ 3999) ds → list_all is_printable (step_words ps ds) ≡ true
steps_print [] ds of_p of_d = refl
steps_print (p ∷ ps) [] of_p of_d = refl
steps_print (p ∷ ps) (d ∷ ds) of_p of_d =
    prints_both (pair_word p d) (step_words ps ds) (pair_prints p d (omega (arith, of_p.0)) (omega (arith, of_d.0))) (steps_print ps ds of_p.1 of_d.1)

node_prints : (line : NodeLine) (ws : List Weight) → IsNodeWith line ws → list_all is_printable (words_with line ws) ≡ true
node_prints (Split relay at) ws is = prints_both (decimal relay) (32 ∷ decimal at) (number_prints relay (omega (arith, is.0))) (number_prints at (omega (arith, is.1)))
node_prints Empty ws is = refl
node_prints Void ws is = weights_print ws is.1.each
node_prints (Bound lambda) ws is = prints_both (decimal lambda) (weight_words ws) (number_prints lambda (omega (arith, is.0))) (weights_print ws is.1.each)
node_prints (Hair row) ws is = number_prints row (omega (arith, is.0))
node_prints (OpenLeaf lambda) ws is = prints_both (decimal lambda) (weight_words ws) (number_prints lambda (omega (arith, is.0))) (weights_print ws is.1.each)

-- a short text that is printed is a line
line_with : (line : List ℕ) → length line ≤ 1036 → list_all is_printable line ≡ true → IsLine line
line_with line short prints = record { short = omega (arith, short); printable = prints }

nodes_are_lines : (nodes : List Single) → AllByRecursion IsNode nodes → AllByRecursion IsLine (map node_line nodes)
nodes_are_lines [] each = tt
nodes_are_lines (n ∷ nodes) each = (line_with (node_line n) (node_short n each.0) (node_prints n.line n.weights each.0), nodes_are_lines nodes each.1)

settings_is_line : (settings : Option Settings) → IfSome settings AreSettings → IsLine (settings_line settings)
settings_is_line None are = record { short = omega arith; printable = refl }
settings_is_line (Some settings) are =
    line_with (settings_line (Some settings)) (settings_short (Some settings) are) (steps_print settings.pickup settings.dial are.pickups are.dials)

opening_are_lines : (study : Option StudyHead) → IfSome study IsStudyHead → AllByRecursion IsLine (opening study)
opening_are_lines None is = (record { short = omega arith; printable = refl }, tt)
opening_are_lines (Some study) is = (
  record { short = omega arith; printable = refl },
  (
    line_with (study_line study) (study_short study is)
        (prints_both (decimal study.format) (32 ∷ (decimal study.relays ++ 32 ∷ decimal study.rows)) (number_prints study.format (omega (arith, is.format)))
        (prints_both (decimal study.relays) (32 ∷ decimal study.rows) (number_prints study.relays (omega (arith, is.relays))) (number_prints study.rows (omega (arith, is.rows))))),
    tt,
  ),
)

count_is_line : (label : List ℕ) (n : ℕ) → length label ≤ 100 → list_all is_printable label ≡ true → n < 10 ^ 16 → IsLine (label ++ decimal n)
count_is_line label n few prints small =
    line_with (label ++ decimal n) (count_short label n few small) (prints_both label (decimal n) prints (number_prints n (omega (arith, small))))

-- the lines of a certificate are lines
head_are_lines : (head : CertHead) → IsHead head → AllByRecursion IsLine (head_lines head)
head_are_lines head is =
    all_append IsLine (opening head.study)
    (ending_line head.ending ∷ gap_line head.gap ∷ budget_line head.budget ∷ boxes_line head.boxes ∷ bound_line head.bound ∷ cost_line head.cost ∷ [])
    (opening_are_lines head.study is.study) (
      ending_is_line head.ending,
      (
        count_is_line (codes "gap ") head.gap (omega arith) refl (omega (arith, is.gap)),
        (
          count_is_line (codes "budget ") head.budget (omega arith) refl (omega (arith, is.budget)),
          (
            count_is_line (codes "boxes ") head.boxes (omega arith) refl (omega (arith, is.boxes)),
            (
              amount_is_line (codes "bound ") (omega arith) refl head.bound is.bound_short,
              (amount_is_line (codes "cost ") (omega arith) refl head.cost is.cost_short, tt),
            ),
          ),
        ),
      ),
    )

pub cert_are_lines : (cert : CertData) → IsCert cert → AllByRecursion IsLine (cert_lines cert)
cert_are_lines cert is =
    all_append IsLine (head_lines cert.head) (settings_line cert.settings ∷ (map node_line (nodes_of cert.tree) ++ codes "end" ∷ []))
    (head_are_lines cert.head is.head) (
      settings_is_line cert.settings is.issued.within,
      all_append IsLine (map node_line (nodes_of cert.tree)) (codes "end" ∷ []) (nodes_are_lines (nodes_of cert.tree) is.tree.each)
          (record { short = omega arith; printable = refl }, tt),
    )

-- texts of lines have one list of lines
pub same_lines : (xs ys : List (List ℕ)) → AllByRecursion IsLine xs → AllByRecursion IsLine ys → text_of xs ≡ text_of ys → xs ≡ ys
same_lines [] [] of_xs of_ys same = refl
same_lines [] (y ∷ ys) of_xs of_ys same = absurd (omega (arith, ap length same, length-append (y ++ 10 ∷ []) (text_of ys), length-append y (10 ∷ [])))
same_lines (x ∷ xs) [] of_xs of_ys same = absurd (omega (arith, ap length same, length-append (x ++ 10 ∷ []) (text_of xs), length-append x (10 ∷ [])))
same_lines (x ∷ xs) (y ∷ ys) of_xs of_ys same =
    let cut : x ++ 10 ∷ text_of xs ≡ y ++ 10 ∷ text_of ys = sym (append_assoc x (10 ∷ []) (text_of xs)) ∙ same ∙ append_assoc y (10 ∷ []) (text_of ys) in
    let first = same_first_line x y (text_of xs) (text_of ys) of_xs.0 of_ys.0 cut in
    ap (λ l. l ∷ xs) first.0 ∙ ap (λ l. y ∷ l) (same_lines xs ys of_xs.1 of_ys.1 first.1)
