use Rattle.std.proofs.Common.{◌++◌, refl, sym, ◌∙◌, arith}
use Rattle.std.specs.Fmt.{decimal}
use Rattle.std.proofs.lemmas.List.{append_cancel_left}
use Rattle.cert_text.specs.Nodes.{weight_words}
use Rattle.cert_text.proofs.Cuts.{same_number}
use Rattle.cert_text.proofs.PairWords.{words_stop}
use Rattle.cert_text.proofs.nodes.read_weighing.Goals as goal

pub returns-in_err-lambda-clause-no_such : goal.returns-in_err-lambda-clause-no_such
returns-in_err-lambda-clause-no_such c none lambda ws some within are is =
    c.in_err-lambda.ensures.no_such refl lambda (weight_words ws) (omega (arith, c.from.ensures, within)) (words_stop ws) is

pub returns-then-lambda-eq0-clause-no_such : goal.returns-then-lambda-eq0-clause-no_such
returns-then-lambda-eq0-clause-no_such c none lambda ws some within are is =
    let read = c.in_ok-lambda in
    let behind = append_cancel_left c.args.label.now (decimal read.lambda ++ read.rest.now) (decimal lambda ++ weight_words ws) (sym read.ensures.said ∙ is) in
    let first = same_number read.lambda lambda read.rest.now (weight_words ws) (omega (arith, read.ensures.within, c.from.ensures)) (omega (arith, within)) read.ensures.stops (words_stop ws) behind in
    omega (arith, first.0, some, c.if-lambda-eq0.true)

pub returns-in_err-n-clause-no_such : goal.returns-in_err-n-clause-no_such
returns-in_err-n-clause-no_such c none lambda ws some within are is =
    let read = c.in_ok-lambda in
    let behind = append_cancel_left c.args.label.now (decimal read.lambda ++ read.rest.now) (decimal lambda ++ weight_words ws) (sym read.ensures.said ∙ is) in
    let first = same_number read.lambda lambda read.rest.now (weight_words ws) (omega (arith, read.ensures.within, c.from.ensures)) (omega (arith, within)) read.ensures.stops (words_stop ws) behind in
    c.in_err-n.ensures.no_such refl ws are first.1
