use Rattle.std.proofs.Common.{◌+◌, ◌*◌, ◌<◌, ℕ, arith, ap, ◌∙◌, get_or, set, length}
use Rattle.margin_rows.specs.FirstBox.{IsFirstSpan, IsFirstStep}
use Rattle.margin_rows.proofs.Spanned.{first_step_small}
use Rattle.margin_rows.proofs.Summed.{place_within, one_added, all_added}
use Rattle.margin_rows.proofs.sums.add_term.Goals as goal
use Rattle.margin_rows.proofs.sums.add_term.Goals.{After-place}

span : (c : After-place) → IsFirstSpan c.args.given.now c.args.term.relay c.in-Some.low c.in-Some.high
span c = rw c.in-Some.is at c.requires.span

first : (c : After-place) → IsFirstStep c.args.given.now c.args.term.relay c.loop-step.step
first c = (span c).inside c.loop-step.step c.loop-step.auto.step (omega (arith, c.loop-step-test.true))

within : (c : After-place) → c.args.term.relay * 64 + c.loop-step.step < length c.loop-step.sums
within c = place_within c.args.given.now c.args.term.relay c.loop-step.step (length c.loop-step.sums) c.requires.fits (first c) (c.loop-step.invariant.size ∙ c.requires.size)

pub overflow_add-step-end : goal.overflow_add-step-end
overflow_add-step-end c =
    let span : IsFirstSpan c.args.given.now c.args.term.relay c.in-Some.low c.in-Some.high = rw c.in-Some.is at c.requires.span in
    let last = span.inside c.in-Some.high span.ordered (omega arith) in
    omega (arith, first_step_small c.args.given.now c.args.term.relay c.in-Some.high c.requires.fits last)

pub bounds-sums-place : goal.bounds-sums-place
bounds-sums-place c = omega (arith, c.place.ensures, within (goal.at.bounds-sums-place c).After-place)

pub bounds-sums-place-in-loop-step : goal.bounds-sums-place-in-loop-step
bounds-sums-place-in-loop-step c = omega (arith, c.place.ensures, within (goal.at.bounds-sums-place-in-loop-step c).After-place)

pub loop-step-preserved : goal.loop-step-preserved
loop-step-preserved c =
    let value : ℕ = get_or c.loop-step.sums c.place.result 0 + c.weighted_time.result in
    one_added c.args.given.now c.args.term c.in-Some.low c.loop-step.step value c.args.sums.now c.loop-step.sums (set c.loop-step.sums c.place.result value) c.loop-step.auto.step c.loop-step.invariant (within (goal.at.loop-step-preserved c).After-place)
    (ap (λ (k : ℕ). get_or c.loop-step.sums k 0 + c.weighted_time.result) c.place.ensures ∙ ap (λ (k : ℕ). get_or c.loop-step.sums (c.args.term.relay * 64 + c.loop-step.step) 0 + k) c.weighted_time.ensures.exact)
    (ap (λ (k : ℕ). set c.loop-step.sums k value) c.place.ensures)

pub returns : goal.returns
returns c =
    let span : IsFirstSpan c.args.given.now c.args.term.relay c.in-Some.low c.in-Some.high = rw c.in-Some.is at c.requires.span in
    all_added c.args.given.now c.args.term c.in-Some.low c.in-Some.high c.loop-step.step c.args.sums.now c.loop-step.sums c.requires.fits span
    (omega (arith, span.ordered, c.loop-step-test.false, c.loop-step.auto.step-end)) c.loop-step.invariant
