use Rattle.std.proofs.Common.{Some, None, refl, sym, ◌∙◌}
use Rattle.std.specs.Prelude.{codes}
use Rattle.std.proofs.lemmas.Bool.Decides.{Decides-eqb}
use Rattle.std.proofs.lemmas.List.{append_cancel_left}
use Rattle.std.proofs.lemmas.Slice.Eq.{strip_prefix_is}
use Rattle.coord_text.specs.Claims.{ending_word}
use Rattle.cert_text.proofs.HeadSteps.{ending_stops}
use Rattle.cert_text.proofs.head.next_ending.Goals as goal

pub returns-in_err-strip_prefix-clause-stops : goal.returns-in_err-strip_prefix-clause-stops
returns-in_err-strip_prefix-clause-stops c none lines to =
    ending_stops c.args.head c.args.line.now (λ ending is. strip_prefix_is Decides-eqb c.args.line.now (codes "ending ") None c.in_err-strip_prefix.ensures.cases (ending_word ending) is) lines to.parts

pub returns-in_err-ending-clause-stops : goal.returns-in_err-ending-clause-stops
returns-in_err-ending-clause-stops c none lines to =
    let word = c.in_ok-strip_prefix.field-0.now in
    let parts = strip_prefix_is Decides-eqb c.args.line.now (codes "ending ") (Some c.in_ok-strip_prefix.field-0) c.in_ok-strip_prefix.ensures.cases in
    ending_stops c.args.head c.args.line.now (λ ending is. c.in_err-ending.ensures.no_such refl ending (append_cancel_left (codes "ending ") word (ending_word ending) (sym parts ∙ is))) lines to.parts
