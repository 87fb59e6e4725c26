use Rattle.std.proofs.Common.{◌≡◌, ◌+◌, ◌<◌, ◌++◌, ◌∷◌, get_or, length, take, vec_capacity, arith, rules, ap, ◌∙◌}
use Rattle.cert_text.specs.CertText.{step_words}
use Rattle.cert_text.specs.Nodes.{pair_word}
use Rattle.cert_text.proofs.Pushing.{step_room, steps_pushed}
use Rattle.cert_text.proofs.text.push_steps.Goals as goal

pub loop-i-preserved : goal.loop-i-preserved
loop-i-preserved c =
    let pickup = c.args.pickup.now in
    let dial = c.args.dial.now in
    let i = c.loop-i.i in
    let out = c.args.out.now.items in
    let first : c.from.result ≡ get_or pickup i 0 = search rules in
    let second : c.from-in-loop-i.result ≡ get_or dial i 0 = search rules in
    let more = c.in_ok-push_pair.ensures.added in (
      more ∙ ap (λ l. l ++ 32 ∷ pair_word c.from.result c.from-in-loop-i.result) c.loop-i.invariant.0
          ∙ ap (λ a. (out ++ step_words (take i pickup) (take i dial)) ++ 32 ∷ pair_word a c.from-in-loop-i.result) first
          ∙ ap (λ a. (out ++ step_words (take i pickup) (take i dial)) ++ 32 ∷ pair_word (get_or pickup i 0) a) second
          ∙ steps_pushed out pickup dial i (omega (arith, c.loop-i-test.true)) (omega (arith, c.loop-i-test.true, c.requires)),
      omega (arith, c.in_ok-push_pair.ensures.capacity, c.loop-i.invariant.1),
    )

pub returns-in_err-push_pair-clause-full : goal.returns-in_err-push_pair-clause-full
returns-in_err-push_pair-clause-full c =
    let pickup = c.args.pickup.now in
    let dial = c.args.dial.now in
    let i = c.loop-i.i in
    let out = c.args.out.now.items in
    let first : c.from.result ≡ get_or pickup i 0 = search rules in
    let second : c.from-in-loop-i.result ≡ get_or dial i 0 = search rules in
    let room = step_room out pickup dial i (omega (arith, c.loop-i-test.true)) (omega (arith, c.loop-i-test.true, c.requires)) in
    let word = ap (λ a. length (32 ∷ pair_word a c.from-in-loop-i.result)) first ∙ ap (λ a. length (32 ∷ pair_word (get_or pickup i 0) a)) second in
    let capacity : vec_capacity c.args.out.now < length out + length (step_words pickup dial) =
    omega (arith, room, word, ap length c.loop-i.invariant.0, c.loop-i.invariant.1, c.in_err-push_pair.ensures.full, c.in_err-push_pair.ensures.capacity) in
    search (rules, capacity)
