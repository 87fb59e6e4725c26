use Rattle.std.proofs.Common.{◌∙◌, ◌&&◌, Bool, not, sym, ap}
use Rattle.coord_words.specs.Line.{all_differ}
use Rattle.coord_words.specs.Names.{texts}
use Rattle.coord_words.proofs.NameLaws.{differ_more}
use Rattle.coord_words.proofs.line.+all_differ.Goals as goal

pub returns-then-not-contains : goal.returns-then-not-contains
returns-then-not-contains t c =
    c.all_differ.ensures ∙ sym (differ_more c.args.names.now c.in-Some.name.now c.in-Some.rest.now c.contains.result c.in-Some.ensures.cases.0 c.contains.ensures.value
    ∙ ap (λ (b : Bool). not b && all_differ (texts c.in-Some.rest.now)) c.if-not-contains.true)

pub returns-else-not-contains : goal.returns-else-not-contains
returns-else-not-contains t c =
    ap not c.if-not-contains.false ∙ sym (differ_more c.args.names.now c.in-Some.name.now c.in-Some.rest.now c.contains.result c.in-Some.ensures.cases.0 c.contains.ensures.value
    ∙ ap (λ (b : Bool). not b && all_differ (texts c.in-Some.rest.now)) c.if-not-contains.false)
