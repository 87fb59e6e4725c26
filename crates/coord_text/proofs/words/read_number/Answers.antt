use Rattle.std.proofs.Common.{◌∙◌, sym, arith}
use Rattle.std.proofs.lemmas.Fmt.{decimal_injective}
use Rattle.coord_text.proofs.words.read_number.Goals as goal

pub returns-else-n-limit-clause-no_such : goal.returns-else-n-limit-clause-no_such
returns-else-n-limit-clause-no_such c none n within is =
    let same = decimal_injective n c.in_ok-n.n (omega arith) (omega arith) (sym is ∙ c.in_ok-n.ensures.spelled) in absurd (omega (arith, same))
