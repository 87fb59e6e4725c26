use Rattle.std.proofs.Common.{◌≡◌, ◌≤◌, List, [], ◌∷◌, length, take, Some, sym, ap, ◌∙◌, arith}
use Rattle.std.specs.Prelude.{codes}
use Rattle.std.proofs.lemmas.Bool.Decides.{Decides-eqb}
use Rattle.std.proofs.lemmas.Slice.Eq.{strip_prefix_is}
use Rattle.coord_model.specs.declared.weights.Weight.{Weight}
use Rattle.cert_text.specs.Nodes.{weight_words}
use Rattle.cert_text.proofs.nodes.read_void.Goals as goal

no_words : (ws : List Weight) → 1 ≤ length ws → weight_words ws ≡ [] → ⊥
no_words [] some is = omega (arith, some)
no_words (w ∷ ws) some is = cc is

pub returns-then-n-eq0-clause-no_such : goal.returns-then-n-eq0-clause-no_such
returns-then-n-eq0-clause-no_such c none ws some are is =
    let text = c.in_ok-strip_prefix.field-0.now in
    let parts = strip_prefix_is Decides-eqb c.args.line.now (codes "V") (Some c.in_ok-strip_prefix.field-0) c.in_ok-strip_prefix.ensures.cases in
    let behind : text ≡ weight_words ws = cc (parts, is) in
    let empty : text ≡ [] = c.in_ok-n.ensures.said ∙ ap (λ n. weight_words (take n c.read_weights.new.weights)) c.if-n-eq0.true in
    no_words ws some (sym behind ∙ empty)
