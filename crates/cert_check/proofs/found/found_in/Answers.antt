use Rattle.cert_tree.proofs.TreesPassed.{past_walked, walk_past}
use Rattle.cert_tree.proofs.TreeLaws.{holds_only}
use Rattle.cert_tree.proofs.WalkedTrees.{walk_holds}
use Rattle.std.specs.Prelude.{Option}
use Rattle.std.proofs.Common.{ℕ, ap, ◌∙◌}
use Rattle.cert_check.specs.TreeGives.{found_of}
use Rattle.cert_check.proofs.Judging.{walk_found}
use Rattle.cert_check.proofs.found.found_in.Goals as goal

pub returns-clause-tree : goal.returns-clause-tree
returns-clause-tree c = λ case box tree.
    (λ walked. (walk_holds case box tree c.args.walk.now walked, walk_past case box tree c.args.walk.now walked), λ past. past_walked case box tree c.args.walk.now past.0 past.1)

pub returns-clause-gives : goal.returns-clause-gives
returns-clause-gives c = λ case box tree walked. walk_found case box tree c.args.walk.now c.args.head.now c.read_walk.result c.read_walk.ensures walked

pub returns-clause-only : goal.returns-clause-only
returns-clause-only c = λ case box tree bound fits holds walked.
    walk_found case box tree c.args.walk.now c.args.head.now c.read_walk.result c.read_walk.ensures walked
    ∙ ap (λ (b : Option ℕ). found_of tree b c.args.head.now) (holds_only case box tree c.args.walk.now.bound bound fits (walk_holds case box tree c.args.walk.now walked) holds)
