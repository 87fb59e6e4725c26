use Rattle.std.proofs.Common.{◌^◌, arith}
use Rattle.std.proofs.lemmas.Nat.{mul-le}
use Rattle.box_bound.proofs.shares.weighted.Goals as goal

pub returns-clause-small : goal.returns-clause-small
returns-clause-small c = omega (arith, c.from.ensures, c.from-2.ensures, mul-le c.from.result c.from-2.result (2 ^ 32) (2 ^ 40) (omega arith) (omega arith))
