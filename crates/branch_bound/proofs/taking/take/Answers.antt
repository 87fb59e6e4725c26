use Rattle.branch_bound.proofs.taking.take.Goals as goal
use Rattle.branch_bound.proofs.taking.take.Goals.{in-Bound, in-Empty, in-Hair, in-Void}

pub returns-in-Split-clause-exact : goal.returns-in-Split-clause-exact
returns-in-Split-clause-exact c = rw c.in-Split.is c.split.ensures.exact

pub returns-clause-exact : goal.returns-clause-exact
returns-clause-exact c = elim c.match-handling.branch [
  | in-Empty w ↦ rw w.in-Empty.is (rw w.leaf-is at c.close.ensures.exact)
  | in-Void w ↦ rw w.in-Void.is (rw w.leaf-is at c.close.ensures.exact)
  | in-Bound w ↦ rw w.in-Bound.is (rw w.leaf-is at c.close.ensures.exact)
  | in-Hair w ↦ rw w.in-Hair.is (rw w.leaf-is at c.close.ensures.exact)
]
