use Rattle.std.proofs.Common.{◌≡◌, true, ap, ◌∙◌, sym, rules}
use Rattle.std.specs.Fmt.{decimal}
use Rattle.std.proofs.lemmas.Fmt.{parse-decimal}
use Rattle.coord_text.proofs.words.number_in.Goals as goal

pub returns-in_default-clause-no_such : goal.returns-in_default-clause-no_such
returns-in_default-clause-no_such c none n small is =
    let read = parse-decimal 64 n c.args.text.now _ small small is c.parse.ensures.value.0 in
    let number : c.in-Ok.n ≡ n = cc read in
    let text : c.format.result.now ≡ c.args.text.now = c.format.ensures.text ∙ ap decimal number ∙ sym is in
    let same : c.eq.result ≡ true = search rules in
    absurd (cc same)

pub returns-in_default-2-clause-no_such : goal.returns-in_default-2-clause-no_such
returns-in_default-2-clause-no_such c none n small is = absurd (cc (parse-decimal 64 n c.args.text.now _ small small is c.parse.ensures.value.0))
