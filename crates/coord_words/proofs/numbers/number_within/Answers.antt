use Rattle.std.proofs.Common.{◌∙◌, sym, arith}
use Rattle.coord_words.proofs.NumberLaws.{number_below, number_is}
use Rattle.coord_words.proofs.numbers.number_within.Goals as goal

pub returns-then-n-least-clause-exact : goal.returns-then-n-least-clause-exact
returns-then-n-least-clause-exact c =
    sym (number_below c.args.least c.args.most c.in_ok-n.n c.args.word.now (sym c.as_bytes.ensures.value ∙ c.in_ok-n.ensures.spelled.1)
    (omega (arith, c.in_ok-n.ensures.spelled.0, c.ranges.most.fits)) (omega (arith, c.if-n-least.true)))

pub returns-else-n-least-clause-exact : goal.returns-else-n-least-clause-exact
returns-else-n-least-clause-exact c =
    sym (number_is c.args.least c.args.most c.in_ok-n.n c.args.word.now (sym c.as_bytes.ensures.value ∙ c.in_ok-n.ensures.spelled.1)
    (omega (arith, c.in_ok-n.ensures.spelled.0, c.ranges.most.fits)) (omega (arith, c.if-n-least.false)) c.in_ok-n.ensures.spelled.0)
