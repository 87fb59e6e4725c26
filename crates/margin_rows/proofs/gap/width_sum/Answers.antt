use Rattle.std.proofs.Common.{arith, ap, refl, take, length, List, ◌<◌, ◌≤◌, ◌+◌, ℕ, subst, sym}
use Rattle.coord_model.specs.declared.study.Term.{Term}
use Rattle.margin_rows.specs.Case.{terms_in}
use Rattle.margin_rows.specs.Gap.{AddsUpTo}
use Rattle.margin_rows.proofs.Placed.{terms_few}
use Rattle.margin_rows.proofs.Widths.{sum_more, sum_all}
use Rattle.margin_rows.proofs.gap.width_sum.Goals as goal

pub overflow_cast-term-end : goal.overflow_cast-term-end
overflow_cast-term-end c =
    omega (arith, ap (λ (ts : List Term). length ts) c.terms.ensures.value, terms_few c.args.inst.now c.terms.ensures.fits.study)

pub loop-term-init : goal.loop-term-init
loop-term-init c = record { sum = refl; few = omega arith }

pub loop-term-preserved : goal.loop-term-preserved
loop-term-preserved c =
    let case = c.args.inst.now in
    let below : c.loop-term.term < length (terms_in case) = omega (arith, c.loop-term-test.true, ap (λ (ts : List Term). length ts) c.terms.ensures.value) in
    let P : ℕ → Type 0 = λ n. AddsUpTo case (take (c.loop-term.term + 1) (terms_in case)) (c.loop-term.sum + n) in
    record {
      sum = subst P (sym c.from-sum.ensures) (sum_more case c.loop-term.term c.loop-term.sum c.weighted_width.result below c.loop-term.invariant.sum c.weighted_width.ensures.exact);
      few = omega (arith, c.loop-term.invariant.few, c.weighted_width.ensures.small, c.from-sum.ensures);
    }

pub returns-clause-exact : goal.returns-clause-exact
returns-clause-exact c =
    let covers : length (terms_in c.args.inst.now) ≤ c.loop-term.term = omega (arith, c.loop-term-test.false, ap (λ (ts : List Term). length ts) c.terms.ensures.value) in
    sum_all c.args.inst.now c.loop-term.term c.loop-term.sum covers c.loop-term.invariant.sum

pub returns-clause-small : goal.returns-clause-small
returns-clause-small c =
    omega (arith, c.loop-term.invariant.few, c.loop-term.auto.term-end, ap (λ (ts : List Term). length ts) c.terms.ensures.value, terms_few c.args.inst.now c.terms.ensures.fits.study)
