use Rattle.std.proofs.Common.{arith}
use Rattle.step_rules.proofs.Rises.{not_rising, one_more_rises}
use Rattle.step_rules.proofs.weights.are_rising.Goals as goal

pub returns-then-rows-next : goal.returns-then-rows-next
returns-then-rows-next c = (
  λ no. absurd cc,
  λ rising. absurd (not_rising c.args.rows.now c.loop-next.next (record { row = 0; weight = 0 }) (omega arith) (omega arith) c.if-rows-next.true rising),
)

pub loop-next-preserved : goal.loop-next-preserved
loop-next-preserved c = one_more_rises c.args.rows.now c.loop-next.next (record { row = 0; weight = 0 }) (omega arith) (omega arith) c.if-rows-next.false c.loop-next.invariant
