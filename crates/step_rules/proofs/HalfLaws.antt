-- The bounds of halves are not below that of the box before.
use Rattle.std.specs.Prelude.{slice_get}
use Rattle.std.specs.Option.{IfSome}
use Rattle.std.proofs.Common.{◌≡◌, ℕ, ◌<◌, ◌≤◌, List, length, arith}
use Rattle.margin_rows.specs.Box.{Box, HasNoEmptySpan, no_steps}
use Rattle.margin_rows.specs.Case.{Case}
use Rattle.margin_rows.specs.Within.{AreWithin, IsWithin, span_of}
use Rattle.margin_rows.specs.declared.span.Steps.{Steps}
use Rattle.margin_rows.proofs.Within.{each_some, some_each}
use Rattle.box_bound.specs.LowerBound.{bound_at}
use Rattle.box_bound.proofs.Bounds.{bound_rises}
use Rattle.box_bound.proofs.Values.{value_rises}
use Rattle.step_rules.specs.Usable.{HasBound, IsBoundBelow, LeafWeights}

-- a box round one with a step in each span has a step in each span
pub steps_round : (inner outer : Box) → IsWithin inner outer → HasNoEmptySpan inner → HasNoEmptySpan outer
steps_round inner outer within steps = record { pickup = round inner.pickup outer.pickup within.pickup steps.pickup; dial = round inner.dial outer.dial within.dial steps.dial }
  where
    round : (spans others : List Steps) → AreWithin spans others → ((i : ℕ) → IfSome (slice_get spans i) (λ span. span.low < span.past)) → (i : ℕ) → IfSome (slice_get others i) (λ span. span.low < span.past)
    round spans others within some = each_some others (λ i span. span.low < span.past) no_steps (λ i below.
        let inside = within.each i in
        let has : (span_of spans i).low < (span_of spans i).past = some_each spans (λ k span. span.low < span.past) no_steps some i (omega (arith, below, within.count)) in
        omega (arith, inside.low, inside.past, has))

-- weights give a box within another no lower bound
pub bound_within : (case : Case) (inner outer : Box) (weights : LeafWeights) (before limit : ℕ) → IsWithin inner outer → HasNoEmptySpan inner → length inner.dial ≡ length case.study.relays → 1 ≤ weights.lambda
    → HasBound case outer weights before → IsBoundBelow case inner weights limit → before ≤ limit
bound_within case inner outer weights before limit within steps count some has below =
    let values = value_rises case inner outer weights.lambda weights.rows below.gives.value has.value within steps count below.gives.dual has.dual in
    let bounds : bound_at has.value weights.lambda ≤ bound_at below.gives.value weights.lambda = bound_rises has.value below.gives.value weights.lambda some values in
    omega (arith, bounds, has.exact, below.gives.exact, below.at_most)
