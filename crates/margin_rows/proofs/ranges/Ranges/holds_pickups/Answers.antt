use Rattle.std.proofs.Common.{rules}
use Rattle.margin_rows.proofs.Halved.{in_first}
use Rattle.margin_rows.proofs.ranges.Ranges.holds_pickups.Goals as goal

pub returns-clause-exact : goal.returns-clause-exact
returns-clause-exact c = search rules

pub returns-clause-first : goal.returns-clause-first
returns-clause-first c = λ yes case fits. in_first case c.args.self.now c.args.pickups.now fits ((returns-clause-exact c).0 yes)
