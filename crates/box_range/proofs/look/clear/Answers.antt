use Rattle.box_range.specs.declared.kind.Kind.TheVariants.{Dial}
use Rattle.box_range.proofs.Spans.{has_steps}
use Rattle.box_range.proofs.look.clear.Goals as goal

pub returns : goal.returns
returns c =
    let some = has_steps c.args.ranges.now Dial c.args.relay c.requires.steps c.requires.relay in
    rw (c.span-low.ensures.steps some).0 at c.set_span.ensures
