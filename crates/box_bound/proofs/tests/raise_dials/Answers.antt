use Rattle.std.specs.Prelude.{slice_get}
use Rattle.std.proofs.Common.{◌≤◌, arith, inl, inr}
use Rattle.std.proofs.lemmas.Bool.{cases_lt}
use Rattle.std.proofs.lemmas.Option.{get_or_from_slice_get}
use Rattle.margin_rows.specs.Box.{IsShownAs, no_steps}
use Rattle.margin_rows.specs.Within.{IsSpanWithin}
use Rattle.margin_rows.specs.declared.span.Span.{Span}
use Rattle.margin_rows.specs.declared.span.Steps.{Steps}
use Rattle.margin_rows.proofs.Places.{some_and}
use Rattle.margin_rows.proofs.Within.{fits_within}
use Rattle.box_bound.proofs.tests.raise_dials.Goals as goal

narrow : (span : Steps) (shown : Span) → IsShownAs span shown → shown.lo ≤ 13 → 99 ≤ shown.hi → IsSpanWithin (record { low = 13; past = 100 }) span
narrow span shown is low high = elim (cases_lt span.low span.past) [
  | inl some ↦ record { low = omega (arith, (is.steps some).0, low); past = omega (arith, (is.steps some).1, high) }
  | inr none ↦ absurd (omega (arith, is.none none, low, high))
]

pub returns-then-dials-ge99 : goal.returns-then-dials-ge99
returns-then-dials-ge99 c =
    let old = c.args.ranges.now in
    let there = some_and (slice_get old.dial c.args.relay) (λ span. IsShownAs span c.dial-dials.result) c.dial-dials.ensures in
    let within = narrow there.0 c.dial-dials.result there.2 c.if-dials-le13.true c.if-dials-ge99.true in
    fits_within c.args.inst.now _ old (c.set_dial.ensures.within (rw (get_or_from_slice_get old.dial c.args.relay there.0 no_steps there.1) within)) c.requires.fits
