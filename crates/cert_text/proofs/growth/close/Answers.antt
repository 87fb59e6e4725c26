use Rattle.std.proofs.Common.{◌∙◌}
use Rattle.cert_text.proofs.GrownTrees.{joined, low_put}
use Rattle.cert_text.proofs.growth.close.Goals as goal

pub returns-in-None-clause-nodes : goal.returns-in-None-clause-nodes
returns-in-None-clause-nodes c =
    low_put c.loop-relay.splits.items c.pop.new.self.items c.push.new.self.items c.pop.result c.in-Some.field-0 c.loop-relay.node c.pop.ensures.items c.in-Some.is c.in-None.is
    c.in_ok-push-in-None.ensures.items
    ∙ c.loop-relay.invariant

pub loop-relay-preserved : goal.loop-relay-preserved
loop-relay-preserved c =
    joined c.loop-relay.splits.items c.pop.new.self.items c.pop.result c.in-Some.field-0 c.in-Some-low.low c.loop-relay.node c.in_ok-node-in-Some-low.node c.pop.ensures.items c.in-Some.is c.in-Some-low.is
    c.in_ok-node-in-Some-low.ensures
    ∙ c.loop-relay.invariant
