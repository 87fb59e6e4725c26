use Rattle.std.proofs.Common.{◌≡◌, suc, ap, arith, get_or}
use Rattle.cert_text.specs.DueNodes.{stack}
use Rattle.cert_text.proofs.Stacks.{leaf_takes, length_stack}
use Rattle.cert_text.proofs.dues.Dues.take.Goals as goal

pub returns-in_default-node-clause-taken : goal.returns-in_default-node-clause-taken
returns-in_default-node-clause-taken c done =
    let depths = c.args.self.now.depths.items in
    let top = c.in-Some.top in
    let pending : c.args.self.now.pending ≡ suc top = omega (arith, c.in-Some.ensures) in
    leaf_takes c.args.node c.in_default-node.not-Split (stack depths c.args.self.now.pending) (get_or depths top 0) (stack depths top) c.args.self.now.taken (ap (stack depths) pending)
    (omega (arith, length_stack depths top, c.args.self.now.nodes, pending))
