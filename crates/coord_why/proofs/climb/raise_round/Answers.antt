use Rattle.std.proofs.Common.{List, ap, arith, length}
use Rattle.coord_model.specs.declared.study.Row.{Row}
use Rattle.coord_why.proofs.Reached.{so_far_top}
use Rattle.coord_why.proofs.climb.raise_round.Goals as goal

pub returns-clause-top : goal.returns-clause-top
returns-clause-top c =
    so_far_top c.args.inst.now c.args.climb.now c.loop-row.climb c.loop-row.row c.loop-row.rose (omega (arith, c.loop-row-test.false, ap (λ (rs : List Row). length rs) c.rows.ensures.value)) c.loop-row.invariant.so_far
