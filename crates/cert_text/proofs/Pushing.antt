use Rattle.std.proofs.Common.{◌≡◌, ℕ, zero, suc, ◌+◌, ◌<◌, ◌≤◌, List, [], ◌∷◌, ◌++◌, length, take, get_or, sym, ap, ◌∙◌, arith, append_assoc, append-nil, length-take-le, length-append}
use Rattle.std.proofs.lemmas.List.{take_more}
use Rattle.coord_model.specs.declared.weights.Weight.{Weight}
use Rattle.cert_text.specs.CertText.{step_words}
use Rattle.cert_text.specs.Nodes.{pair_word, weight_words}
use Rattle.cert_text.proofs.PairWords.{words_append}

steps_append : (ps ds : List ℕ) (p d : ℕ) → length ps ≡ length ds → step_words (ps ++ p ∷ []) (ds ++ d ∷ []) ≡ step_words ps ds ++ 32 ∷ pair_word p d
steps_append [] [] p d same = ap (λ l. 32 ∷ l) (append-nil (pair_word p d))
steps_append [] (e ∷ ds) p d same = absurd (omega (arith, same))
steps_append (q ∷ ps) [] p d same = absurd (omega (arith, same))
steps_append (q ∷ ps) (e ∷ ds) p d same =
    ap (λ l. 32 ∷ (pair_word q e ++ l)) (steps_append ps ds p d (omega (arith, same)))
    ∙ ap (λ l. 32 ∷ l) (sym (append_assoc (pair_word q e) (step_words ps ds) (32 ∷ pair_word p d)))

-- one more word of the settings behind a text
pub steps_pushed : (front : List ℕ) (ps ds : List ℕ) (i : ℕ) → i < length ps → i < length ds
    → (front ++ step_words (take i ps) (take i ds)) ++ 32 ∷ pair_word (get_or ps i 0) (get_or ds i 0) ≡ front ++ step_words (take (i + 1) ps) (take (i + 1) ds)
steps_pushed front ps ds i of_ps of_ds =
    append_assoc front (step_words (take i ps) (take i ds)) (32 ∷ pair_word (get_or ps i 0) (get_or ds i 0))
    ∙ ap (λ l. front ++ l) (sym (steps_append (take i ps) (take i ds) (get_or ps i 0) (get_or ds i 0) (length-take-le i ps (omega (arith, of_ps)) ∙ sym (length-take-le i ds (omega (arith, of_ds)))))
    ∙ ap (λ l. step_words l (take i ds ++ get_or ds i 0 ∷ [])) (sym (take_more ps i 0 of_ps)) ∙ ap (step_words (take (i + 1) ps)) (sym (take_more ds i 0 of_ds)))

-- one more word of weights behind a text
pub weight_pushed : (front : List ℕ) (ws : List Weight) (i : ℕ) (none : Weight) → i < length ws
    → (front ++ weight_words (take i ws)) ++ 32 ∷ pair_word (get_or ws i none).row (get_or ws i none).weight ≡ front ++ weight_words (take (i + 1) ws)
weight_pushed front ws i none within =
    let w = get_or ws i none in
    append_assoc front (weight_words (take i ws)) (32 ∷ pair_word w.row w.weight)
    ∙ ap (λ l. front ++ (weight_words (take i ws) ++ 32 ∷ l)) (sym (append-nil (pair_word w.row w.weight)))
    ∙ ap (λ l. front ++ l) (sym (words_append (take i ws) (w ∷ [])) ∙ ap weight_words (sym (take_more ws i none within)))

-- words of a front are no longer than those of the whole
steps_front : (k : ℕ) (ps ds : List ℕ) → length (step_words (take k ps) (take k ds)) ≤ length (step_words ps ds)
steps_front zero ps ds = omega arith
steps_front (suc k) [] ds = omega arith
steps_front (suc k) (p ∷ ps) [] = omega arith
steps_front (suc k) (p ∷ ps) (d ∷ ds) =
    omega (arith, steps_front k ps ds, length-append (pair_word p d) (step_words (take k ps) (take k ds)), length-append (pair_word p d) (step_words ps ds))

weights_front : (k : ℕ) (ws : List Weight) → length (weight_words (take k ws)) ≤ length (weight_words ws)
weights_front zero ws = omega arith
weights_front (suc k) [] = omega arith
weights_front (suc k) (w ∷ ws) =
    omega (arith, weights_front k ws, length-append (pair_word w.row w.weight) (weight_words (take k ws)), length-append (pair_word w.row w.weight) (weight_words ws))

-- the next word fits where all words do
pub step_room : (front : List ℕ) (ps ds : List ℕ) (i : ℕ) → i < length ps → i < length ds
    → length (front ++ step_words (take i ps) (take i ds)) + length (32 ∷ pair_word (get_or ps i 0) (get_or ds i 0)) ≤ length front + length (step_words ps ds)
step_room front ps ds i of_ps of_ds =
    let words = step_words (take i ps) (take i ds) in
    let word = 32 ∷ pair_word (get_or ps i 0) (get_or ds i 0) in
    omega (
      arith,
      ap length (steps_pushed front ps ds i of_ps of_ds),
      length-append (front ++ words) word,
      length-append front (step_words (take (i + 1) ps) (take (i + 1) ds)),
      steps_front (i + 1) ps ds,
    )

pub weight_room : (front : List ℕ) (ws : List Weight) (i : ℕ) (none : Weight) → i < length ws
    → length (front ++ weight_words (take i ws)) + length (32 ∷ pair_word (get_or ws i none).row (get_or ws i none).weight) ≤ length front + length (weight_words ws)
weight_room front ws i none within =
    let word = 32 ∷ pair_word (get_or ws i none).row (get_or ws i none).weight in
    omega (
      arith,
      ap length (weight_pushed front ws i none within),
      length-append (front ++ weight_words (take i ws)) word,
      length-append front (weight_words (take (i + 1) ws)),
      weights_front (i + 1) ws,
    )
