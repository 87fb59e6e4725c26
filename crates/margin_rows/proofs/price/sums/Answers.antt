use Rattle.std.proofs.Common.{arith, ap, length, List, ◌<◌}
use Rattle.coord_model.specs.Choice.{choice_data}
use Rattle.coord_model.specs.declared.study.Term.{Term}
use Rattle.margin_rows.specs.Case.{terms_in}
use Rattle.margin_rows.specs.Price.{least_part, greatest_part}
use Rattle.margin_rows.proofs.Placed.{part_more, terms_few}
use Rattle.margin_rows.proofs.price.sums.Goals as goal

pub overflow_cast-term-end : goal.overflow_cast-term-end
overflow_cast-term-end c =
    omega (arith, ap (λ (ts : List Term). length ts) c.terms.ensures.value, terms_few c.args.inst.now c.terms.ensures.fits.study)

pub loop-term-preserved : goal.loop-term-preserved
loop-term-preserved c =
    let case = c.args.inst.now in
    let settings = choice_data c.args.choice.now in
    let below : c.loop-term.term < length (terms_in case) = omega (arith, c.loop-term-test.true, ap (λ (ts : List Term). length ts) c.terms.ensures.value) in
    record {
      least_sum = part_more case (least_part case settings) c.loop-term.term c.loop-term.least c.weighted_times-lower.result.0 c.from-least.result below c.loop-term.invariant.least_sum c.from-least.ensures c.weighted_times-lower.ensures.least;
      greatest_sum = part_more case (greatest_part case settings) c.loop-term.term c.loop-term.greatest c.weighted_times-lower.result.1 c.from-greatest.result below c.loop-term.invariant.greatest_sum c.from-greatest.ensures c.weighted_times-lower.ensures.greatest;
      least_few = omega (arith, c.loop-term.invariant.least_few, c.weighted_times-lower.ensures.least_small, c.from-least.ensures);
      greatest_few = omega (arith, c.loop-term.invariant.greatest_few, c.weighted_times-lower.ensures.greatest_small, c.from-greatest.ensures);
    }

pub returns-clause-least_small : goal.returns-clause-least_small
returns-clause-least_small c =
    omega (arith, c.loop-term.invariant.least_few, c.loop-term.auto.term-end, ap (λ (ts : List Term). length ts) c.terms.ensures.value, terms_few c.args.inst.now c.terms.ensures.fits.study)

pub returns-clause-greatest_small : goal.returns-clause-greatest_small
returns-clause-greatest_small c =
    omega (arith, c.loop-term.invariant.greatest_few, c.loop-term.auto.term-end, ap (λ (ts : List Term). length ts) c.terms.ensures.value, terms_few c.args.inst.now c.terms.ensures.fits.study)
