use Rattle.std.specs.Prelude.{ℤ}
use Rattle.std.proofs.Common.{ℕ, ◌+◌, ◌<◌, arith, refl, rules, subst}
use Rattle.std.proofs.lemmas.Int.{to_z-of_z}
use mir.Syntax.{w128}
use mir.Val.{SFits}
use Rattle.margin_rows.specs.FirstBox.{IsFirstStep}
use Rattle.margin_rows.proofs.Spanned.{first_step_small}
use Rattle.box_bound.specs.RelayParts.{IsLeastPart, dials_of, pickups_of}
use Rattle.box_bound.proofs.Leasts.{lesser_read, picked_small, least_more, least_whole}
use Rattle.box_bound.proofs.Spans.{IsSpanRead, pickups_read, low_is_step, high_is_step}
use Rattle.box_bound.proofs.least.least_over.Goals as goal
use Rattle.box_bound.proofs.least.least_over.Goals.{After-pickup-span}

read : (c : After-pickup-span) → IsSpanRead (pickups_of c.args.ranges.now c.args.relay) c.pickup-span.result (IsFirstStep c.args.inst.now c.args.relay)
read c = pickups_read c.args.inst.now c.args.ranges.now c.args.relay c.pickup-span.result c.requires.weighed.filled c.pickup-span.ensures

high_small : (c : After-pickup-span) → c.pickup-span.result.hi < 64
high_small c = first_step_small c.args.inst.now c.args.relay c.pickup-span.result.hi c.requires.weighed.filled.limits (high_is_step (read c))

pub least_at-least-requires-clause-step : goal.least_at-least-requires-clause-step
least_at-least-requires-clause-step c = low_is_step (read (goal.at.least_at-least-requires-clause-step c).After-pickup-span)

pub overflow_step-step : goal.overflow_step-step
overflow_step-step c =
    let r = read (goal.at.overflow_step-step c).After-pickup-span in
    omega (arith, r.low, r.past, r.some, high_small (goal.at.overflow_step-step c).After-pickup-span)

pub overflow_add-step-end : goal.overflow_add-step-end
overflow_add-step-end c = omega (arith, high_small (goal.at.overflow_add-step-end c).After-pickup-span)

pub loop-step-init : goal.loop-step-init
loop-step-init c =
    let fits : SFits w128 c.least_at-least.result = search rules in
    let r = read (goal.at.loop-step-init c).After-pickup-span in
    let case = c.args.inst.now in
    let P : ℕ → ℤ → Type 0 = λ n z. IsLeastPart case c.args.lambda c.args.weights.now c.args.relay (record { low = n; past = c.pickup-span.result.lo + 1 }) (dials_of c.args.ranges.now c.args.relay) z in
    rw (to_z-of_z w128 c.least_at-least.result fits) (record {
      least = subst (λ (n : ℕ). P n c.least_at-least.result) r.low c.least_at-least.ensures.exact;
      small = record { not_low = c.least_at-least.ensures.not_low; not_high = c.least_at-least.ensures.not_high };
    })

pub least_at-requires-clause-step : goal.least_at-requires-clause-step
least_at-requires-clause-step c =
    let r = read (goal.at.least_at-requires-clause-step c).After-pickup-span in
    r.steps c.loop-step.step (record { from = omega (arith, r.low, c.loop-step.auto.step); before = omega (arith, r.past, c.loop-step-test.true) })

pub loop-step-preserved : goal.loop-step-preserved
loop-step-preserved c =
    let fits : SFits w128 c.min-least.result = search rules in
    let here_fits : SFits w128 c.least_at.result = search rules in
    let r = read (goal.at.loop-step-preserved c).After-pickup-span in
    let case = c.args.inst.now in
    let less = lesser_read _ c.least_at.result c.min-least.result _ _ c.min-least.ensures.value c.min-least.ensures.self_bound c.min-least.ensures.other_bound refl (to_z-of_z w128 c.least_at.result here_fits) in
    rw (to_z-of_z w128 c.min-least.result fits) (record {
      least = least_more case c.args.lambda c.args.weights.now c.args.relay (dials_of c.args.ranges.now c.args.relay) (pickups_of c.args.ranges.now c.args.relay).low c.loop-step.step _ c.least_at.result c.min-least.result
          (omega (arith, r.low, c.loop-step.auto.step)) c.loop-step.invariant.least c.least_at.ensures.exact less.first less.second less.one;
      small = picked_small _ c.least_at.result c.min-least.result less.one c.loop-step.invariant.small (record { not_low = c.least_at.ensures.not_low; not_high = c.least_at.ensures.not_high });
    })

pub returns-clause-exact : goal.returns-clause-exact
returns-clause-exact c =
    let r = read (goal.at.returns-clause-exact c).After-pickup-span in
    least_whole c.args.inst.now c.args.lambda c.args.weights.now c.args.relay (dials_of c.args.ranges.now c.args.relay) (pickups_of c.args.ranges.now c.args.relay) c.pickup-span.result c.loop-step.step _ r
    (omega (arith, c.loop-step-test.false, c.loop-step.auto.step-end)) c.loop-step.invariant.least

pub returns-clause-not_low : goal.returns-clause-not_low
returns-clause-not_low c = c.loop-step.invariant.small.not_low

pub returns-clause-not_high : goal.returns-clause-not_high
returns-clause-not_high c = c.loop-step.invariant.small.not_high
