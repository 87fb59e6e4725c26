use Rattle.std.proofs.Common.{ap, ◌/◌, sym, ℕ, subst}
use Rattle.coord_model.specs.Choice.{choice_data}
use Rattle.coord_model.specs.Cost.{CostsAtLeast}
use Rattle.margin_rows.specs.Price.{lower_cost_of}
use Rattle.margin_rows.proofs.Boxed.{set_terms}
use Rattle.margin_rows.proofs.Costs.{costs_at_least}
use Rattle.margin_rows.proofs.price.lower_cost.Goals as goal

pub returns-clause-exact : goal.returns-clause-exact
unfolding lower_cost_of
returns-clause-exact c = ap (λ (s : ℕ). s / 1000000) c.sums-least.ensures.least

pub returns-clause-at_least : goal.returns-clause-at_least
returns-clause-at_least c =
    let case = c.args.inst.now in
    let P : ℕ → Type 0 = λ n. CostsAtLeast case.study case.currents (choice_data c.args.choice.now) n in
    subst P (sym (returns-clause-exact c)) (costs_at_least case (choice_data c.args.choice.now) (set_terms case (choice_data c.args.choice.now) c.sums-least.ensures.fits c.requires))
