use Rattle.std.proofs.Common.{arith}
use Rattle.step_rules.proofs.Splits.{all_single}
use Rattle.step_rules.proofs.place.first_split.Goals as goal

pub unreachable-requires : goal.unreachable-requires
unreachable-requires c =
    c.requires.several (all_single c.args.ranges.now c.requires.steps (λ relay step below. c.loop-relay.invariant relay step (omega (arith, below, c.requires.relays, c.loop-relay-test.false))))
