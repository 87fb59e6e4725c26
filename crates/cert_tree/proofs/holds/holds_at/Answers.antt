use Rattle.std.specs.Prelude.{Option}
use Rattle.std.proofs.Common.{◌≡◌, ℕ, ◌+◌, arith, ap, sym, subst}
use Rattle.coord_model.specs.Tree.{nodes_of, shape}
use Rattle.cert_tree.specs.Holding.{Fails, Holds}
use Rattle.cert_tree.specs.TreeWalks.{walk_at}
use Rattle.cert_tree.specs.Walks.{Refuses, Walk, Walked}
use Rattle.cert_tree.proofs.Proving.{holds_proves}
use Rattle.cert_tree.proofs.TreeLaws.{fails_only, holds_not_fails, holds_only}
use Rattle.cert_tree.proofs.WalkedTrees.{refused_within, walk_fails, walk_holds}
use Rattle.cert_tree.proofs.holds.holds_at.Goals as goal
use Rattle.cert_tree.proofs.holds.holds_at.Goals.{After-bound, After-nodes}

-- the tree holds with the bound of the walk
holds : (c : After-bound) → Holds c.args.inst.now c.args.ranges.now (shape c.args.node.now) c.bound.result
holds c =
    let case = c.args.inst.now in
    let tree = shape c.args.node.now in
    let walked = subst (λ (w : Walk). Walked case w (nodes_of tree) c.take_tree.new.walk) c.in_ok-walk.ensures c.in-Ok.ensures.walked in
    subst (λ (b : Option ℕ). Holds case c.args.ranges.now tree b) (sym c.bound.ensures) (walk_holds case c.args.ranges.now tree c.take_tree.new.walk walked)

-- or it fails at the node after those that the walk took
refused : (c : After-nodes) → Refuses c.args.inst.now (walk_at c.args.ranges.now) (nodes_of (shape c.args.node.now)) (c.nodes.result + 1) c.in-Err.kind
refused c =
    let r = c.in-Err.ensures.refused in
    let start : c.in_ok-walk.walk.nodes ≡ 0 = ap (λ (w : Walk). w.nodes) c.in_ok-walk.ensures in
    let number : r.0 ≡ c.nodes.result + 1 = omega (arith, r.2, start, c.nodes.ensures) in
    subst (λ (n : ℕ). Refuses c.args.inst.now (walk_at c.args.ranges.now) (nodes_of (shape c.args.node.now)) n c.in-Err.kind) number
    (subst (λ (w : Walk). Refuses c.args.inst.now w (nodes_of (shape c.args.node.now)) r.0 c.in-Err.kind) c.in_ok-walk.ensures r.1)

fails : (c : After-nodes) → Fails c.args.inst.now c.args.ranges.now (shape c.args.node.now) (c.nodes.result + 1) c.in-Err.kind
fails c = walk_fails c.args.inst.now c.args.ranges.now (shape c.args.node.now) (c.nodes.result + 1) c.in-Err.kind (refused c)

pub returns-in-Ok-clause-exact : goal.returns-in-Ok-clause-exact
returns-in-Ok-clause-exact c = holds (goal.at.returns-in-Ok-clause-exact c).After-bound

pub returns-in-Ok-clause-holds : goal.returns-in-Ok-clause-holds
returns-in-Ok-clause-holds c = λ other is.
    holds_only c.args.inst.now c.args.ranges.now (shape c.args.node.now) c.bound.result other c.requires.fits (holds (goal.at.returns-in-Ok-clause-holds c).After-bound) is

pub returns-in-Ok-clause-fails : goal.returns-in-Ok-clause-fails
returns-in-Ok-clause-fails c = λ number kind is.
    holds_not_fails c.args.inst.now c.args.ranges.now (shape c.args.node.now) c.bound.result number kind (holds (goal.at.returns-in-Ok-clause-fails c).After-bound) is

pub returns-in-Ok-clause-proves : goal.returns-in-Ok-clause-proves
returns-in-Ok-clause-proves c =
    holds_proves c.args.inst.now c.args.ranges.now (shape c.args.node.now) c.bound.result c.take_tree.ensures.limits c.requires.fits c.requires.tree.leaves
    (holds (goal.at.returns-in-Ok-clause-proves c).After-bound)

pub overflow_add-result : goal.overflow_add-result
overflow_add-result c =
    let few = refused_within c.args.inst.now (nodes_of (shape c.args.node.now)) (walk_at c.args.ranges.now) (c.nodes.result + 1) c.in-Err.kind (refused (goal.at.overflow_add-result c).After-nodes) in
    omega (arith, few, c.requires.tree.nodes)

pub returns-clause-exact : goal.returns-clause-exact
returns-clause-exact c = fails (goal.at.returns-clause-exact c).After-nodes

pub returns-clause-holds : goal.returns-clause-holds
returns-clause-holds c = λ other is.
    holds_not_fails c.args.inst.now c.args.ranges.now (shape c.args.node.now) other (c.nodes.result + 1) c.in-Err.kind is (fails (goal.at.returns-clause-holds c).After-nodes)

pub returns-clause-fails : goal.returns-clause-fails
returns-clause-fails c = λ number kind is.
    fails_only c.args.inst.now c.args.ranges.now (shape c.args.node.now) (c.nodes.result + 1) number c.in-Err.kind kind (fails (goal.at.returns-clause-fails c).After-nodes) is
