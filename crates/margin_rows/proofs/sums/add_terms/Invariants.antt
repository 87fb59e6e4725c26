use Rattle.std.proofs.Common.{take}
use Rattle.margin_rows.specs.Case.{terms_in}
use Rattle.margin_rows.specs.Tables.{HoldsSums}
use Rattle.margin_rows.proofs.sums.add_terms.Given as goal

abbrev pub invariant-loop-number : goal.invariant-loop-number
invariant-loop-number l = HoldsSums l.given (take l.number (terms_in l.given)) l.sums
