use Rattle.box_range.proofs.Rounded.{IsUpTo}
use Rattle.box_range.proofs.round.round.Given as goal

abbrev pub invariant-loop-number : goal.invariant-loop-number
invariant-loop-number l = IsUpTo l.inst l.initial.ranges l.ranges l.due l.initial.next l.next l.moved l.number
