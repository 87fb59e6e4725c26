use Rattle.cert_text.proofs.GrownTrees.{split_put}
use Rattle.cert_text.proofs.tree.GrowingTree.open.Goals as goal

pub returns : goal.returns
returns c = split_put c.args.self.now.splits.items c.push.new.self.items c.args.self.now.tree c.args.relay c.args.at c.requires.growing c.in_ok-push.ensures.items
