use Rattle.cert_tree.proofs.TreesPassed.{gives_as_tree, leads_to_one, refuses_if_fails, takes_if_holds}
use Rattle.cert_tree.proofs.holds.each_walk_passes_or_refuses.Goals as goal

pub returns-clause-takes : goal.returns-clause-takes
returns-clause-takes c = takes_if_holds

pub returns-clause-refuses : goal.returns-clause-refuses
returns-clause-refuses c = refuses_if_fails

pub returns-clause-whole : goal.returns-clause-whole
returns-clause-whole c = gives_as_tree

pub returns-clause-one : goal.returns-clause-one
returns-clause-one c = leads_to_one
