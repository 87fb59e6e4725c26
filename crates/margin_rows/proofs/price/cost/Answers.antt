use Rattle.std.proofs.Common.{ap, ◌∙◌, sym, ℕ, subst}
use Rattle.std.specs.Int.{div_ceil}
use Rattle.coord_model.specs.Choice.{choice_data}
use Rattle.coord_model.specs.Cost.{CostsAtMost}
use Rattle.margin_rows.specs.Price.{cost_of}
use Rattle.margin_rows.proofs.Boxed.{set_terms}
use Rattle.margin_rows.proofs.Costs.{costs_at_most}
use Rattle.margin_rows.proofs.price.cost.Goals as goal

pub returns-clause-exact : goal.returns-clause-exact
unfolding cost_of
returns-clause-exact c = c.div_ceil.ensures ∙ ap (λ (s : ℕ). div_ceil s 1000000) c.sums-least.ensures.greatest

pub returns-clause-at_most : goal.returns-clause-at_most
returns-clause-at_most c =
    let case = c.args.inst.now in
    let P : ℕ → Type 0 = λ n. CostsAtMost case.study case.currents (choice_data c.args.choice.now) n in
    subst P (sym (returns-clause-exact c)) (costs_at_most case (choice_data c.args.choice.now) (set_terms case (choice_data c.args.choice.now) c.sums-least.ensures.fits c.requires))
