use Rattle.std.proofs.Common.{◌++◌, Some, None, ap, ◌∙◌}
use Rattle.std.proofs.lemmas.Bool.Decides.{Decides-eqb}
use Rattle.std.proofs.lemmas.Slice.Eq.{strip_prefix_is}
use Rattle.coord_text.specs.Claims.{amount}
use Rattle.cert_text.proofs.head.labelled_amount.Goals as goal

pub returns-in_err-word-clause-no_such : goal.returns-in_err-word-clause-no_such
returns-in_err-word-clause-no_such c none n short is =
    strip_prefix_is Decides-eqb c.args.line.now c.args.label.now None c.in_err-word.ensures.cases (amount n) is

pub returns-clause-said : goal.returns-clause-said
returns-clause-said c =
    let parts = strip_prefix_is Decides-eqb c.args.line.now c.args.label.now (Some c.in_ok-word.word) c.in_ok-word.ensures.cases in
    parts ∙ ap (λ w. c.args.label.now ++ w) c.in_ok-n.ensures.spelled
