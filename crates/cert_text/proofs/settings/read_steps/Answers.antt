use Rattle.std.proofs.Common.{◌≡◌, ◌++◌, [], Some, map, length, take, length-take-le, refl, sym, ap, ◌∙◌, arith}
use Rattle.std.specs.Prelude.{codes}
use Rattle.std.proofs.lemmas.Bool.Decides.{Decides-eqb}
use Rattle.std.proofs.lemmas.List.{append_cancel_left}
use Rattle.std.proofs.lemmas.Slice.Eq.{strip_prefix_is}
use Rattle.coord_model.specs.Choice.{choice_data}
use Rattle.cert_text.specs.CertText.{step_words}
use Rattle.cert_text.specs.Nodes.{weight_words}
use Rattle.cert_text.proofs.ScanSteps.{length_paired, paired, settings_of_pairs, some_words, within_paired, words_of_pairs, words_paired}
use Rattle.cert_text.proofs.settings.read_steps.Goals as goal

pub returns-in_err-n-clause-no_such : goal.returns-in_err-n-clause-no_such
returns-in_err-n-clause-no_such c none st are is =
    let words = c.in_ok-words.words.now in
    let parts = strip_prefix_is Decides-eqb c.args.line.now (codes "settings") (Some c.in_ok-words.words) c.in_ok-words.ensures.cases in
    let behind : words ≡ step_words st.pickup st.dial = append_cancel_left (codes "settings") words (step_words st.pickup st.dial) (sym parts ∙ is) in
    c.in_err-n.ensures.no_such refl (paired st.pickup st.dial) (omega (arith, length_paired st.pickup st.dial are.paired, are.few)) (within_paired st.pickup st.dial are.pickups are.dials)
    (behind ∙ words_paired st.pickup st.dial)

pub returns-then-n-eq0-clause-no_such : goal.returns-then-n-eq0-clause-no_such
returns-then-n-eq0-clause-no_such c none st are is =
    let words = c.in_ok-words.words.now in
    let parts = strip_prefix_is Decides-eqb c.args.line.now (codes "settings") (Some c.in_ok-words.words) c.in_ok-words.ensures.cases in
    let behind : words ≡ step_words st.pickup st.dial = append_cancel_left (codes "settings") words (step_words st.pickup st.dial) (sym parts ∙ is) in
    let empty : words ≡ [] = c.in_ok-n.ensures.said ∙ ap (λ n. weight_words (take n c.read_pairs.new.pairs)) c.if-n-eq0.true in
    some_words st.pickup st.dial are.paired are.some (sym behind ∙ empty)

pub returns-clause-is : goal.returns-clause-is
returns-clause-is c =
    let ws = take c.in_ok-n.n c.read_pairs.new.pairs in
    let long : length ws ≡ c.in_ok-n.n = length-take-le c.in_ok-n.n c.read_pairs.new.pairs (omega (arith, c.in_ok-n.ensures.few, c.in_ok-n.ensures.length, c.requires.pairs_room)) in
    settings_of_pairs (choice_data c.put_steps.new.choice) ws c.put_steps.ensures.pickup c.put_steps.ensures.dial c.in_ok-n.ensures.within
    (omega (arith, long, c.if-n-eq0.false)) (omega (arith, long, c.in_ok-n.ensures.few))

pub returns-clause-said : goal.returns-clause-said
returns-clause-said c =
    let ws = take c.in_ok-n.n c.read_pairs.new.pairs in
    let parts = strip_prefix_is Decides-eqb c.args.line.now (codes "settings") (Some c.in_ok-words.words) c.in_ok-words.ensures.cases in
    parts ∙ ap (λ w. codes "settings" ++ w) (c.in_ok-n.ensures.said ∙ sym (words_of_pairs ws)
    ∙ ap (λ ps. step_words ps (map (λ w. w.weight) ws)) (sym c.put_steps.ensures.pickup) ∙ ap (step_words c.put_steps.new.choice.pickup.items) (sym c.put_steps.ensures.dial))
