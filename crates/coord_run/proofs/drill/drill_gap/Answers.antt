use Rattle.std.proofs.Common.{arith}
use Rattle.coord_run.proofs.drill.drill_gap.Goals as goal

pub returns-clause-enough : goal.returns-clause-enough
returns-clause-enough c least is = omega (arith, c.least_gap.ensures.only least is, c.max.ensures)
