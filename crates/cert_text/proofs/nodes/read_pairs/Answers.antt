use Rattle.std.proofs.Common.{◌≡◌, ◌≢◌, ℕ, ◌+◌, ◌≤◌, List, [], ◌∷◌, ◌++◌, length, take, set, refl, sym, ap, subst, ◌∙◌, arith, rules, append_assoc, append-nil, length-append, length-take-le}
use Rattle.std.proofs.lemmas.List.{take_more_set}
use Rattle.coord_model.specs.declared.weights.Weight.{Weight}
use Rattle.cert_text.specs.Nodes.{weight_words, pair_word}
use Rattle.cert_text.specs.Pairs.{AreWithin}
use Rattle.cert_text.proofs.PairWords.{all_append, peel, stops_after, words_append, words_stop}
use Rattle.cert_text.proofs.nodes.read_pairs.Goals as goal

-- what is left, where words follow
more_left : (left : List ℕ) (more : List Weight) → left ≢ [] → left ≡ weight_words more → (w : Weight) × (ws : List Weight) × (more ≡ w ∷ ws)
more_left left [] some is = absurd (some is)
more_left left (w ∷ ws) some is = (w, ws, refl)

-- the limits of the word that follows
next_within : (first second : ℕ) (done ws more : List Weight) (w : Weight) (others : List Weight) → ws ≡ done ++ more → more ≡ w ∷ others → AreWithin first second ws
    → (w.row ≤ first) × (w.weight ≤ second)
next_within first second done ws more w others parts next within =
    within_at done (subst (AreWithin first second) parts within)
  where
    within_at : (done : List Weight) → AreWithin first second (done ++ more) → (w.row ≤ first) × (w.weight ≤ second)
    within_at [] all = (subst (AreWithin first second) next all).0
    within_at (d ∷ done) all = within_at done all.1

pub returns-in_err-pair-clause-no_such : goal.returns-in_err-pair-clause-no_such
returns-in_err-pair-clause-no_such c none ws few within is =
    let done = take c.loop-n.n c.loop-n.pairs in
    let left = c.loop-n.left.now in
    let peeled = peel c.args.first c.args.second (omega arith) (omega arith) done ws left c.loop-n.invariant.within within c.loop-n.invariant.stops (sym c.loop-n.invariant.said ∙ is) in
    let some : left ≢ [] = search rules in
    let next = more_left left peeled.more some peeled.rest in
    let w = next.0 in
    let of_w = next_within c.args.first c.args.second done ws peeled.more w next.1 peeled.parts next.2 within in
    c.in_err-pair.ensures.no_such refl w.row w.weight (weight_words next.1) of_w.0 of_w.1 (words_stop next.1) (peeled.rest ∙ ap weight_words next.2)

pub loop-n-preserved : goal.loop-n-preserved
loop-n-preserved c =
    let done = take c.loop-n.n c.loop-n.pairs in
    let pair = c.in_ok-pair.pair in
    let rest = c.in_ok-pair.rest.now in
    let more : take (c.loop-n.n + 1) (set c.loop-n.pairs c.loop-n.n pair) ≡ done ++ pair ∷ [] = take_more_set c.loop-n.pairs c.loop-n.n pair (omega (arith, c.requires.room)) in
    record {
      within = subst (AreWithin c.args.first c.args.second) (sym more) (all_append (λ w. (w.row ≤ c.args.first) × (w.weight ≤ c.args.second)) done (pair ∷ []) c.loop-n.invariant.within (c.in_ok-pair.ensures.within, tt));
      said = c.loop-n.invariant.said ∙ ap (λ l. weight_words done ++ l) c.in_ok-pair.ensures.said
          ∙ ap (λ l. weight_words done ++ 32 ∷ l) (ap (λ l. l ++ rest) (sym (append-nil (pair_word pair.row pair.weight))))
          ∙ sym (append_assoc (weight_words done) (weight_words (pair ∷ [])) rest) ∙ ap (λ l. l ++ rest) (sym (words_append done (pair ∷ [])))
          ∙ ap (λ ws. weight_words ws ++ rest) (sym more);
      stops = stops_after (take (c.loop-n.n + 1) (set c.loop-n.pairs c.loop-n.n pair)) rest c.in_ok-pair.ensures.stops;
    }

pub returns-else-is_empty-2-clause-no_such : goal.returns-else-is_empty-2-clause-no_such
returns-else-is_empty-2-clause-no_such c none ws few within is =
    let done = take c.loop-n.n c.loop-n.pairs in
    let left = c.loop-n.left.now in
    let peeled = peel c.args.first c.args.second (omega arith) (omega arith) done ws left c.loop-n.invariant.within within c.loop-n.invariant.stops (sym c.loop-n.invariant.said ∙ is) in
    let some : left ≢ [] = search rules in
    let next = more_left left peeled.more some peeled.rest in
    let long : length done ≡ c.loop-n.n = length-take-le c.loop-n.n c.loop-n.pairs (omega (arith, c.requires.room)) in
    omega (arith, few, long, ap length peeled.parts, length-append done peeled.more, ap length next.2)
