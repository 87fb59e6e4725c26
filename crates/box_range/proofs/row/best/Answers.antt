use Rattle.std.proofs.Common.{◌≡◌, ◌-◌, ◌<◌, arith}
use Rattle.margin_rows.specs.Box.{IsShownAs}
use Rattle.margin_rows.specs.declared.span.Span.{Span}
use Rattle.margin_rows.specs.declared.span.Steps.{Steps}
use Rattle.box_range.specs.declared.kind.Kind.TheVariants.{Pickup, Dial}
use Rattle.box_range.proofs.Spans.{has_steps}
use Rattle.box_range.proofs.row.best.Goals as goal

last : (span : Steps) (shown : Span) → IsShownAs span shown → span.low < span.past → shown.hi ≡ span.past - 1
last span shown is some = omega (arith, (is.steps some).1)

first : (span : Steps) (shown : Span) → IsShownAs span shown → span.low < span.past → shown.lo ≡ span.low
first span shown is some = (is.steps some).0

pub returns : goal.returns
returns c =
    let box = c.args.ranges.now in
    let row = c.args.row in
    let steps = c.requires.steps in
    let a = last _ c.span.result c.span.ensures (has_steps box Pickup row.backup steps (c.requires.relays.backup Pickup)) in
    let b = last _ c.span-2.result c.span-2.ensures (has_steps box Dial row.backup steps (c.requires.relays.backup Dial)) in
    let d = first _ c.span-3.result c.span-3.ensures (has_steps box Pickup row.primary steps (c.requires.relays.primary Pickup)) in
    let e = first _ c.span-4.result c.span-4.ensures (has_steps box Dial row.primary steps (c.requires.relays.primary Dial)) in
    rw (a, b, d, e)
