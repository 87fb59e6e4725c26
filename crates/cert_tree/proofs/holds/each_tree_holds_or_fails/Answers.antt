use Rattle.cert_tree.proofs.HoldsOrFails.{holds_or_fails}
use Rattle.cert_tree.proofs.TreeLaws.{holds_not_fails}
use Rattle.cert_tree.proofs.holds.each_tree_holds_or_fails.Goals as goal

pub returns-clause-either : goal.returns-clause-either
returns-clause-either c = λ case box tree limits fits. holds_or_fails case box tree limits fits

pub returns-clause-never_both : goal.returns-clause-never_both
returns-clause-never_both c = λ case box tree bound number kind holds fails. holds_not_fails case box tree bound number kind holds fails
