use Rattle.std.proofs.Common.{arith}
use Rattle.cert_check.proofs.claim.of_tree.Goals as goal

pub returns-then-head-least-clause-accepts : goal.returns-then-head-least-clause-accepts
returns-then-head-least-clause-accepts c = λ settings agrees.
    let same = c.least_gap-least.ensures.only agrees.gap.least agrees.gap.exact in
    let enough = agrees.gap.at_least in
    let short = c.if-head-least.true in
    absurd (omega (arith, same, enough, short))
