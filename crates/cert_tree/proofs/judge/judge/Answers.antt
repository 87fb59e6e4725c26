use Rattle.std.proofs.Common.{rules}
use Rattle.cert_tree.proofs.judge.judge.Goals as goal

pub returns-in-Split-clause-exact : goal.returns-in-Split-clause-exact
returns-in-Split-clause-exact c = rw c.in-Split.is (c.split.ensures.exact c.args.weights.now (search rules))

pub returns-in-Empty-clause-exact : goal.returns-in-Empty-clause-exact
returns-in-Empty-clause-exact c = rw c.in-Empty.is (c.empty.ensures.exact c.args.weights.now (search rules))

pub returns-in-Hair-clause-exact : goal.returns-in-Hair-clause-exact
returns-in-Hair-clause-exact c = rw c.in-Hair.is (c.hair.ensures.exact c.args.weights.now (search rules))
