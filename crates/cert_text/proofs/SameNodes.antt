use Rattle.std.proofs.Common.{◌≡◌, ◌≢◌, ℕ, ◌-◌, ◌^◌, ◌≤◌, List, [], ◌∷◌, ◌++◌, refl, sym, ap, ◌∙◌, arith}
use Rattle.std.specs.Fmt.{decimal}
use Rattle.std.specs.Prelude.{codes}
use Rattle.std.proofs.lemmas.Fmt.{decimal_injective}
use Rattle.coord_model.specs.Tree.{Single}
use Rattle.coord_model.specs.declared.tree.NodeLine.{NodeLine}
use Rattle.coord_model.specs.declared.tree.NodeLine.TheVariants.{Split, Empty, Void, Bound, Hair, OpenLeaf}
use Rattle.coord_model.specs.declared.weights.Weight.{Weight}
use Rattle.cert_text.specs.Nodes.{AreWeights, IsNode, IsNodeWith, node_line, weight_words, words_with}
use Rattle.cert_text.proofs.Cuts.{same_number}
use Rattle.cert_text.proofs.PairWords.{same_words, words_stop}

-- the first byte of a line
abbrev first_byte : List ℕ → ℕ
first_byte [] = 0
first_byte (b ∷ bs) = b

-- a lambda and weights have one spelling
same_weighing : (m n : ℕ) (ws vs : List Weight) → m ≤ 2 ^ 32 - 1 → n ≤ 2 ^ 32 - 1 → AreWeights ws → AreWeights vs
    → decimal m ++ weight_words ws ≡ decimal n ++ weight_words vs → (m ≡ n) × (ws ≡ vs)
same_weighing m n ws vs of_m of_n of_ws of_vs same =
    let parts = same_number m n (weight_words ws) (weight_words vs) (omega (arith, of_m)) (omega (arith, of_n)) (words_stop ws) (words_stop vs) same in
    (parts.0, same_words 4095 (2 ^ 32 - 1) (omega arith) (omega arith) ws vs of_ws.each of_vs.each parts.1)

-- a node has a line of its own
same_line : (l m : NodeLine) (ws vs : List Weight) → IsNodeWith l ws → IsNodeWith m vs → words_with l ws ≡ words_with m vs → (l ≡ m) × (ws ≡ vs)
same_line (Split relay at) (Split relay2 at2) ws vs of_l of_m same =
    let parts = same_number relay relay2 (32 ∷ decimal at) (32 ∷ decimal at2) (omega (arith, of_l.0)) (omega (arith, of_m.0)) refl refl (cc same) in
    let last : decimal at ≡ decimal at2 = cc parts.1 in
    (ap (λ r. Split r at) parts.0 ∙ ap (λ a. Split relay2 a) (decimal_injective at at2 (omega (arith, of_l.1)) (omega (arith, of_m.1)) last), of_l.2 ∙ sym of_m.2)
same_line (Split relay at) Empty ws vs of_l of_m same = let h : 83 ≡ 69 = ap first_byte same in absurd (omega (arith, h))
same_line (Split relay at) Void ws vs of_l of_m same = let h : 83 ≡ 86 = ap first_byte same in absurd (omega (arith, h))
same_line (Split relay at) (Bound lambda2) ws vs of_l of_m same = let h : 83 ≡ 66 = ap first_byte same in absurd (omega (arith, h))
same_line (Split relay at) (Hair row2) ws vs of_l of_m same = let h : 83 ≡ 72 = ap first_byte same in absurd (omega (arith, h))
same_line (Split relay at) (OpenLeaf lambda2) ws vs of_l of_m same = let h : 83 ≡ 79 = ap first_byte same in absurd (omega (arith, h))
same_line Empty (Split relay2 at2) ws vs of_l of_m same = let h : 69 ≡ 83 = ap first_byte same in absurd (omega (arith, h))
same_line Empty Empty ws vs of_l of_m same = (refl, of_l ∙ sym of_m)
same_line Empty Void ws vs of_l of_m same = let h : 69 ≡ 86 = ap first_byte same in absurd (omega (arith, h))
same_line Empty (Bound lambda2) ws vs of_l of_m same = let h : 69 ≡ 66 = ap first_byte same in absurd (omega (arith, h))
same_line Empty (Hair row2) ws vs of_l of_m same = let h : 69 ≡ 72 = ap first_byte same in absurd (omega (arith, h))
same_line Empty (OpenLeaf lambda2) ws vs of_l of_m same = let h : 69 ≡ 79 = ap first_byte same in absurd (omega (arith, h))
same_line Void (Split relay2 at2) ws vs of_l of_m same = let h : 86 ≡ 83 = ap first_byte same in absurd (omega (arith, h))
same_line Void Empty ws vs of_l of_m same = let h : 86 ≡ 69 = ap first_byte same in absurd (omega (arith, h))
same_line Void Void ws vs of_l of_m same = (refl, same_words 4095 (2 ^ 32 - 1) (omega arith) (omega arith) ws vs of_l.1.each of_m.1.each (cc same))
same_line Void (Bound lambda2) ws vs of_l of_m same = let h : 86 ≡ 66 = ap first_byte same in absurd (omega (arith, h))
same_line Void (Hair row2) ws vs of_l of_m same = let h : 86 ≡ 72 = ap first_byte same in absurd (omega (arith, h))
same_line Void (OpenLeaf lambda2) ws vs of_l of_m same = let h : 86 ≡ 79 = ap first_byte same in absurd (omega (arith, h))
same_line (Bound lambda) (Split relay2 at2) ws vs of_l of_m same = let h : 66 ≡ 83 = ap first_byte same in absurd (omega (arith, h))
same_line (Bound lambda) Empty ws vs of_l of_m same = let h : 66 ≡ 69 = ap first_byte same in absurd (omega (arith, h))
same_line (Bound lambda) Void ws vs of_l of_m same = let h : 66 ≡ 86 = ap first_byte same in absurd (omega (arith, h))
same_line (Bound lambda) (Bound lambda2) ws vs of_l of_m same =
    let parts = same_weighing lambda lambda2 ws vs of_l.0.1 of_m.0.1 of_l.1 of_m.1 (cc same) in
    (ap Bound parts.0, parts.1)
same_line (Bound lambda) (Hair row2) ws vs of_l of_m same = let h : 66 ≡ 72 = ap first_byte same in absurd (omega (arith, h))
same_line (Bound lambda) (OpenLeaf lambda2) ws vs of_l of_m same = let h : 66 ≡ 79 = ap first_byte same in absurd (omega (arith, h))
same_line (Hair row) (Split relay2 at2) ws vs of_l of_m same = let h : 72 ≡ 83 = ap first_byte same in absurd (omega (arith, h))
same_line (Hair row) Empty ws vs of_l of_m same = let h : 72 ≡ 69 = ap first_byte same in absurd (omega (arith, h))
same_line (Hair row) Void ws vs of_l of_m same = let h : 72 ≡ 86 = ap first_byte same in absurd (omega (arith, h))
same_line (Hair row) (Bound lambda2) ws vs of_l of_m same = let h : 72 ≡ 66 = ap first_byte same in absurd (omega (arith, h))
same_line (Hair row) (Hair row2) ws vs of_l of_m same = (ap Hair (decimal_injective row row2 (omega (arith, of_l.0)) (omega (arith, of_m.0)) (cc same)), of_l.1 ∙ sym of_m.1)
same_line (Hair row) (OpenLeaf lambda2) ws vs of_l of_m same = let h : 72 ≡ 79 = ap first_byte same in absurd (omega (arith, h))
same_line (OpenLeaf lambda) (Split relay2 at2) ws vs of_l of_m same = let h : 79 ≡ 83 = ap first_byte same in absurd (omega (arith, h))
same_line (OpenLeaf lambda) Empty ws vs of_l of_m same = let h : 79 ≡ 69 = ap first_byte same in absurd (omega (arith, h))
same_line (OpenLeaf lambda) Void ws vs of_l of_m same = let h : 79 ≡ 86 = ap first_byte same in absurd (omega (arith, h))
same_line (OpenLeaf lambda) (Bound lambda2) ws vs of_l of_m same = let h : 79 ≡ 66 = ap first_byte same in absurd (omega (arith, h))
same_line (OpenLeaf lambda) (Hair row2) ws vs of_l of_m same = let h : 79 ≡ 72 = ap first_byte same in absurd (omega (arith, h))
same_line (OpenLeaf lambda) (OpenLeaf lambda2) ws vs of_l of_m same =
    let parts = same_weighing lambda lambda2 ws vs of_l.0.1 of_m.0.1 of_l.1 of_m.1 (cc same) in
    (ap OpenLeaf parts.0, parts.1)

pub same_node : (a b : Single) → IsNode a → IsNode b → node_line a ≡ node_line b → a ≡ b
same_node a b of_a of_b same =
    let parts = same_line a.line b.line a.weights b.weights of_a of_b same in
    ap (λ l. record { line = l; weights = a.weights }) parts.0 ∙ ap (λ ws. record { line = b.line; weights = ws }) parts.1

-- no node is the last line
pub node_is_not_end : (l : NodeLine) (ws : List Weight) → words_with l ws ≢ codes "end"
node_is_not_end (Split relay at) ws same = let h : 83 ≡ 101 = ap first_byte same in omega (arith, h)
node_is_not_end Empty ws same = let h : 69 ≡ 101 = ap first_byte same in omega (arith, h)
node_is_not_end Void ws same = let h : 86 ≡ 101 = ap first_byte same in omega (arith, h)
node_is_not_end (Bound lambda) ws same = let h : 66 ≡ 101 = ap first_byte same in omega (arith, h)
node_is_not_end (Hair row) ws same = let h : 72 ≡ 101 = ap first_byte same in omega (arith, h)
node_is_not_end (OpenLeaf lambda) ws same = let h : 79 ≡ 101 = ap first_byte same in omega (arith, h)
