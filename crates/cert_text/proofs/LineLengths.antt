use Rattle.std.proofs.Common.{ℕ, ◌+◌, ◌*◌, ◌-◌, ◌^◌, ◌<◌, ◌≤◌, Option, Some, None, List, [], ◌∷◌, ◌++◌, length, arith, length-append}
use Rattle.std.specs.Fmt.{decimal}
use Rattle.std.specs.List.{AllByRecursion}
use Rattle.std.specs.Prelude.{codes, IfSome}
use Rattle.std.proofs.lemmas.Fmt.{length-decimal-le}
use Rattle.coord_model.specs.Choice.{Settings}
use Rattle.coord_model.specs.Tree.{Single}
use Rattle.coord_model.specs.declared.cert.StudyHead.{StudyHead}
use Rattle.coord_model.specs.declared.choice.Ending.{Ending}
use Rattle.coord_model.specs.declared.choice.Ending.TheVariants.{Closed, NoSettings, BudgetSpent, Hairline}
use Rattle.coord_model.specs.declared.tree.NodeLine.{NodeLine}
use Rattle.coord_model.specs.declared.tree.NodeLine.TheVariants.{Split, Empty, Void, Bound, Hair, OpenLeaf}
use Rattle.coord_model.specs.declared.weights.Weight.{Weight}
use Rattle.coord_text.specs.Claims.{IsShort, amount, ending_word}
use Rattle.cert_text.specs.CertData.{AreSettings, IsStudyHead}
use Rattle.cert_text.specs.CertText.{settings_line, step_words, study_line}
use Rattle.cert_text.specs.Nodes.{IsNode, IsNodeWith, pair_word, weight_words, words_with, node_line}
use Rattle.cert_text.specs.Pairs.{AreWithin}

-- words of two numbers of at most so many digits
pair_short : (a b j k : ℕ) → 1 ≤ j → 1 ≤ k → a < 10 ^ j → b < 10 ^ k → a < 2 ^ 64 → b < 2 ^ 64 → length (pair_word a b) ≤ j + k + 1
pair_short a b j k of_j of_k of_a of_b small_a small_b =
    omega (arith, length-append (decimal a) (58 ∷ decimal b), length-decimal-le j a of_j of_a small_a, length-decimal-le k b of_k of_b small_b)

pub weights_short : (ws : List Weight) → AreWithin 4095 (2 ^ 32 - 1) ws → length (weight_words ws) ≤ 16 * length ws
weights_short [] within = omega arith
weights_short (w ∷ ws) within =
    omega (
      arith,
      length-append (pair_word w.row w.weight) (weight_words ws),
      pair_short w.row w.weight 4 10 (omega arith) (omega arith) (omega (arith, within.0)) (omega (arith, within.0)) (omega (arith, within.0)) (omega (arith, within.0)),
      weights_short ws within.1,
    )

pub steps_short : (ps ds : List ℕ) → AllByRecursion (λ s. s ≤ 63) ps → AllByRecursion (λ s. s ≤ 3999) ds → length (step_words ps ds) ≤ 8 * length ps
steps_short [] ds of_p of_d = omega arith
steps_short (p ∷ ps) [] of_p of_d = omega arith
steps_short (p ∷ ps) (d ∷ ds) of_p of_d =
    omega (
      arith,
      length-append (pair_word p d) (step_words ps ds),
      pair_short p d 2 4 (omega arith) (omega arith) (omega (arith, of_p.0)) (omega (arith, of_d.0)) (omega (arith, of_p.0)) (omega (arith, of_d.0)),
      steps_short ps ds of_p.1 of_d.1,
    )

-- each line has at most 1,036 bytes
node_short_with : (line : NodeLine) (ws : List Weight) → IsNodeWith line ws → length (words_with line ws) ≤ 1036
node_short_with (Split relay at) ws is =
    omega (
      arith,
      length-append (decimal relay) (32 ∷ decimal at),
      length-decimal-le 2 relay (omega arith) (omega (arith, is.0)) (omega (arith, is.0)),
      length-decimal-le 2 at (omega arith) (omega (arith, is.1)) (omega (arith, is.1)),
    )
node_short_with Empty ws is = omega arith
node_short_with Void ws is = omega (arith, weights_short ws is.1.each, is.1.leaf.few)
node_short_with (Bound lambda) ws is =
    omega (
      arith,
      length-append (decimal lambda) (weight_words ws),
      length-decimal-le 10 lambda (omega arith) (omega (arith, is.0)) (omega (arith, is.0)),
      weights_short ws is.1.each,
      is.1.leaf.few,
    )
node_short_with (Hair row) ws is = omega (arith, length-decimal-le 4 row (omega arith) (omega (arith, is.0)) (omega (arith, is.0)))
node_short_with (OpenLeaf lambda) ws is =
    omega (
      arith,
      length-append (decimal lambda) (weight_words ws),
      length-decimal-le 10 lambda (omega arith) (omega (arith, is.0)) (omega (arith, is.0)),
      weights_short ws is.1.each,
      is.1.leaf.few,
    )

pub node_short : (node : Single) → IsNode node → length (node_line node) ≤ 1036
node_short node is = node_short_with node.line node.weights is

pub settings_short : (settings : Option Settings) → IfSome settings AreSettings → length (settings_line settings) ≤ 1036
settings_short None are = omega arith
settings_short (Some settings) are =
    omega (arith, length-append (codes "settings") (step_words settings.pickup settings.dial), steps_short settings.pickup settings.dial are.pickups are.dials, are.few)

pub study_short : (study : StudyHead) → IsStudyHead study → length (study_line study) ≤ 1036
study_short study is =
    omega (
      arith,
      length-append (decimal study.format) (32 ∷ (decimal study.relays ++ 32 ∷ decimal study.rows)),
      length-append (decimal study.relays) (32 ∷ decimal study.rows),
      length-decimal-le 1 study.format (omega arith) (omega (arith, is.format)) (omega (arith, is.format)),
      length-decimal-le 2 study.relays (omega arith) (omega (arith, is.relays)) (omega (arith, is.relays)),
      length-decimal-le 4 study.rows (omega arith) (omega (arith, is.rows)) (omega (arith, is.rows)),
    )

pub ending_short : (ending : Ending) → length (ending_word ending) ≤ 100
ending_short Closed = omega arith
ending_short NoSettings = omega arith
ending_short BudgetSpent = omega arith
ending_short Hairline = omega arith

pub amount_short : (n : Option ℕ) → IsShort n → length (amount n) ≤ 16
amount_short None short = omega arith
amount_short (Some n) short = length-decimal-le 16 n (omega arith) short (omega (arith, short))

pub count_short : (label : List ℕ) (n : ℕ) → length label ≤ 100 → n < 10 ^ 16 → length (label ++ decimal n) ≤ 1036
count_short label n few small = omega (arith, length-append label (decimal n), length-decimal-le 16 n (omega arith) small (omega (arith, small)))
