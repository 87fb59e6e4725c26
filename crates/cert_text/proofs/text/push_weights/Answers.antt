use Rattle.std.proofs.Common.{◌≡◌, ◌+◌, ◌<◌, ◌++◌, ◌∷◌, get_or, length, take, vec_capacity, arith, rules, ap, ◌∙◌}
use Rattle.coord_model.specs.declared.weights.Weight.{Weight}
use Rattle.cert_text.specs.Nodes.{pair_word, weight_words}
use Rattle.cert_text.proofs.Pushing.{weight_pushed, weight_room}
use Rattle.cert_text.proofs.text.push_weights.Goals as goal

pub loop-weight-preserved : goal.loop-weight-preserved
loop-weight-preserved c =
    let ws = c.args.weights.now in
    let i = c.loop-weight.weight-index in
    let out = c.args.out.now.items in
    let none : Weight = record { row = 0; weight = 0 } in
    let w = get_or ws i none in
    let first : c.from.result ≡ w.row = search rules in
    let second : c.from-in-loop-weight.result ≡ w.weight = search rules in (
      c.in_ok-push_pair.ensures.added ∙ ap (λ l. l ++ 32 ∷ pair_word c.from.result c.from-in-loop-weight.result) c.loop-weight.invariant.0
          ∙ ap (λ a. (out ++ weight_words (take i ws)) ++ 32 ∷ pair_word a c.from-in-loop-weight.result) first
          ∙ ap (λ a. (out ++ weight_words (take i ws)) ++ 32 ∷ pair_word w.row a) second
          ∙ weight_pushed out ws i none (omega (arith, c.loop-weight-test.true)),
      omega (arith, c.in_ok-push_pair.ensures.capacity, c.loop-weight.invariant.1),
    )

pub returns-in_err-push_pair-clause-full : goal.returns-in_err-push_pair-clause-full
returns-in_err-push_pair-clause-full c =
    let ws = c.args.weights.now in
    let i = c.loop-weight.weight-index in
    let out = c.args.out.now.items in
    let none : Weight = record { row = 0; weight = 0 } in
    let w = get_or ws i none in
    let first : c.from.result ≡ w.row = search rules in
    let second : c.from-in-loop-weight.result ≡ w.weight = search rules in
    let room = weight_room out ws i none (omega (arith, c.loop-weight-test.true)) in
    let word = ap (λ a. length (32 ∷ pair_word a c.from-in-loop-weight.result)) first ∙ ap (λ a. length (32 ∷ pair_word w.row a)) second in
    let capacity : vec_capacity c.args.out.now < length out + length (weight_words ws) =
    omega (arith, room, word, ap length c.loop-weight.invariant.0, c.loop-weight.invariant.1, c.in_err-push_pair.ensures.full, c.in_err-push_pair.ensures.capacity) in
    search (rules, capacity)
