use Rattle.std.proofs.Common.{refl, sym, ◌∙◌, subst}
use Rattle.std.specs.Prelude.{codes}
use Rattle.coord_text.specs.Claims.{CostGoesWith, amount}
use Rattle.coord_text.proofs.SameWords.{same_amount}
use Rattle.settings_sheet.proofs.Spelled.{cost_is_line, same_word}
use Rattle.settings_sheet.proofs.elements.read_cost.Goals as goal

pub returns-in_err-word-clause-no_such : goal.returns-in_err-word-clause-no_such
returns-in_err-word-clause-no_such c none n rest short goes is = c.in_err-word.ensures.no_such refl (amount n) rest (cost_is_line n short) is

pub returns-in_err-cost-clause-no_such : goal.returns-in_err-cost-clause-no_such
returns-in_err-cost-clause-no_such c none n rest short goes is =
    let read = c.in_ok-word.ensures in
    c.in_err-cost.ensures.no_such refl n short
    (same_word (codes "cost ") c.in_ok-word.word.now (amount n) c.in_ok-word.rest.now rest read.line (cost_is_line n short) (sym read.said ∙ is))

pub returns-else-cost_goes_with-clause-no_such : goal.returns-else-cost_goes_with-clause-no_such
returns-else-cost_goes_with-clause-no_such c none n rest short goes is =
    let read = c.in_ok-word.ensures in
    let word = same_word (codes "cost ") c.in_ok-word.word.now (amount n) c.in_ok-word.rest.now rest read.line (cost_is_line n short) (sym read.said ∙ is) in
    let same = same_amount n c.in_ok-cost.cost short c.in_ok-cost.ensures.short (sym word ∙ c.in_ok-cost.ensures.spelled) in
    absurd (cc (c.cost_goes_with.ensures.no (subst (CostGoesWith c.args.ending) same goes)))
