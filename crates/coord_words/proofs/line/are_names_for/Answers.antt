use Rattle.coord_words.proofs.NameLaws.{names_for}
use Rattle.coord_words.proofs.line.are_names_for.Goals as goal

pub returns-else-not-line : goal.returns-else-not-line
returns-else-not-line c =
    names_for c.args.line.now c.args.names.now c.is_some.result c.all_differ.result c.if-names-count.true c.is_some.ensures c.if-not-line.false c.all_differ.ensures
