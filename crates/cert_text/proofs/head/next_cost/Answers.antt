use Rattle.std.proofs.Common.{refl, sym, subst, ◌∙◌}
use Rattle.std.specs.Prelude.{codes}
use Rattle.std.proofs.lemmas.List.{append_cancel_left}
use Rattle.coord_text.specs.Claims.{CostGoesWith, amount}
use Rattle.coord_text.proofs.SameWords.{same_amount}
use Rattle.cert_text.proofs.HeadSteps.{cost_stops}
use Rattle.cert_text.proofs.head.next_cost.Goals as goal

pub returns-in_err-cost-clause-stops : goal.returns-in_err-cost-clause-stops
returns-in_err-cost-clause-stops c none = cost_stops c.args.head c.args.line.now (λ n short goes. c.in_err-cost.ensures.no_such refl n short)

pub returns-then-not-cost_goes_with-clause-stops : goal.returns-then-not-cost_goes_with-clause-stops
returns-then-not-cost_goes_with-clause-stops c none = cost_stops c.args.head c.args.line.now (λ n short goes is.
    let word = append_cancel_left (codes "cost ") (amount c.in_ok-cost.cost) (amount n) (sym c.in_ok-cost.ensures.said ∙ is) in
    let same = same_amount n c.in_ok-cost.cost short c.in_ok-cost.ensures.short (sym word) in
    cc (c.if-not-cost_goes_with.true, c.cost_goes_with.ensures.no (subst (CostGoesWith c.args.head.ending) same goes)))
