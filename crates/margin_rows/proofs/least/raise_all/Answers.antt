use Rattle.std.proofs.Common.{arith}
use Rattle.margin_rows.proofs.Raising.{sum_bounded}
use Rattle.margin_rows.proofs.least.raise_all.Goals as goal

pub loop-smaller : goal.loop-smaller
loop-smaller c = omega (arith, c.in-Rose.ensures.1, sum_bounded c.args.inst.now c.raise_round.new.dials c.in-Rose.ensures.0.on_steps)
