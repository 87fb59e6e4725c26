use Rattle.std.proofs.Common.{◌≡◌, map, take}
use Rattle.margin_rows.specs.declared.span.Steps.{Steps}
use Rattle.margin_rows.proofs.ranges.lows.Given as goal

abbrev pub invariant-loop-span : goal.invariant-loop-span
invariant-loop-span l = l.steps.items ≡ map (λ (span : Steps). span.low) (take l.span-index l.spans.items)
