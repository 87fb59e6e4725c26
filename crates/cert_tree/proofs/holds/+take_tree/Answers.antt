use Rattle.std.proofs.Common.{◌≡◌, suc, ◌<◌, ◌++◌, length, arith, ap}
use Rattle.std.proofs.lemmas.List.{length-append}
use Rattle.std.proofs.lemmas.Result.{err_from_is_err_and}
use Rattle.coord_model.specs.Tree.{nodes_of, shape}
use Rattle.cert_tree.proofs.TreeTaking.{due_between, first_refused, high_refused, low_refused, nodes_between, one_refused, split_walked}
use Rattle.cert_tree.proofs.holds.+take_tree.Goals as goal

pub returns-in_err-node-in-Split-clause-refused : goal.returns-in_err-node-in-Split-clause-refused
returns-in_err-node-in-Split-clause-refused t c =
    let p = err_from_is_err_and c.from_residual.result c.from_residual.ensures.1 in
    rw (p.1, p.2, c.in-Split.is)
    (first_refused c.args.inst.now c.args.walk.now c.node.new.self _ _ c.in_err-node-in-Split.field-0.0 c.in_err-node-in-Split.ensures.wrong c.in_err-node-in-Split.ensures.kept)

pub returns-in_err-take_tree-in-Split-clause-refused : goal.returns-in_err-take_tree-in-Split-clause-refused
returns-in_err-take_tree-in-Split-clause-refused t c =
    let p = err_from_is_err_and c.from_residual-in_err-take_tree-in-Split.result c.from_residual-in_err-take_tree-in-Split.ensures.1 in
    rw (p.1, p.2, c.in-Split.is)
    (low_refused c.args.inst.now c.args.walk.now c.node.new.self c.in-Split.relay c.in-Split.at (shape c.in-Split.low.value) (shape c.in-Split.high.value)
    c.in_ok-node-in-Split.ensures.taken c.take_tree.new.walk c.in_err-take_tree-in-Split.field-0.0 (rw c.deref.ensures at c.in_err-take_tree-in-Split.ensures.refused))

pub take_tree-requires-in-Split : goal.take_tree-requires-in-Split
take_tree-requires-in-Split t c =
    let case = c.args.inst.now in
    let low = c.in-Split.low.value in
    let high = c.in-Split.high.value in
    let takes = c.in_ok-node-in-Split.ensures.taken in
    let walked = rw c.deref.ensures at c.in_ok-take_tree-in-Split.ensures.walked in
    let due = due_between case c.args.walk.now c.node.new.self c.in-Split.relay c.in-Split.at (shape low) (shape high) takes c.take_tree.new.walk walked in
    let leaves = rw c.in-Split.is at c.requires.leaves in
    let few = rw c.in-Split.is at c.requires.nodes in
    let size : length (nodes_of (shape c.args.node.now)) ≡ suc (length (nodes_of (shape low) ++ nodes_of (shape high))) = ap (λ n. length (nodes_of (shape n))) c.in-Split.is in
    let later : length (nodes_of (shape c.deref-in-Split.result.now)) < t = rw c.deref-in-Split.ensures (omega (arith, c.decreases, size, length-append (nodes_of (shape low)) (nodes_of (shape high)))) in (
      later,
      (
        omega (arith, due, c.requires.due),
        (
          c.in_ok-take_tree-in-Split.ensures.going,
          (
            c.in_ok-take_tree-in-Split.ensures.fits,
            (
              rw c.deref-in-Split.ensures leaves.1,
              rw c.deref-in-Split.ensures
                  (nodes_between case c.args.walk.now c.node.new.self c.in-Split.relay c.in-Split.at (shape low) (shape high) takes c.take_tree.new.walk walked few),
            ),
          ),
        ),
      ),
    )

pub returns-in_ok-take_tree-in-Split-clause-walked : goal.returns-in_ok-take_tree-in-Split-clause-walked
returns-in_ok-take_tree-in-Split-clause-walked t c =
    let walked = rw c.deref.ensures at c.in_ok-take_tree-in-Split.ensures.walked in
    rw c.in-Split.is (split_walked c.args.inst.now c.args.walk.now c.node.new.self c.in-Split.relay c.in-Split.at (shape c.in-Split.low.value) (shape c.in-Split.high.value)
    c.in_ok-node-in-Split.ensures.taken c.take_tree.new.walk walked c.take_tree-in-Split.new.walk c.take_tree-in-Split.result (rw c.deref-in-Split.ensures at c.take_tree-in-Split.ensures.walked))

pub returns-in_ok-take_tree-in-Split-clause-refused : goal.returns-in_ok-take_tree-in-Split-clause-refused
returns-in_ok-take_tree-in-Split-clause-refused t c =
    let walked = rw c.deref.ensures at c.in_ok-take_tree-in-Split.ensures.walked in
    rw c.in-Split.is (high_refused c.args.inst.now c.args.walk.now c.node.new.self c.in-Split.relay c.in-Split.at (shape c.in-Split.low.value) (shape c.in-Split.high.value)
    c.in_ok-node-in-Split.ensures.taken c.take_tree.new.walk walked c.take_tree-in-Split.new.walk c.take_tree-in-Split.result (rw c.deref-in-Split.ensures at c.take_tree-in-Split.ensures.refused))

pub returns-in-Empty-clause-refused : goal.returns-in-Empty-clause-refused
returns-in-Empty-clause-refused t c =
    rw c.in-Empty.is (one_refused c.args.inst.now c.args.walk.now c.node-in-Empty.new.self _ c.node-in-Empty.result c.node-in-Empty.ensures.wrong c.node-in-Empty.ensures.kept)

pub returns-in-Void-clause-refused : goal.returns-in-Void-clause-refused
returns-in-Void-clause-refused t c =
    rw c.in-Void.is (one_refused c.args.inst.now c.args.walk.now c.node-in-Void.new.self _ c.node-in-Void.result (rw c.deref-in-Void.ensures.value at c.node-in-Void.ensures.wrong) c.node-in-Void.ensures.kept)

pub returns-in-Bound-clause-refused : goal.returns-in-Bound-clause-refused
returns-in-Bound-clause-refused t c =
    rw c.in-Bound.is (one_refused c.args.inst.now c.args.walk.now c.node-in-Bound.new.self _ c.node-in-Bound.result (rw c.deref-in-Bound.ensures.value at c.node-in-Bound.ensures.wrong) c.node-in-Bound.ensures.kept)

pub returns-in-Hair-clause-refused : goal.returns-in-Hair-clause-refused
returns-in-Hair-clause-refused t c =
    rw c.in-Hair.is (one_refused c.args.inst.now c.args.walk.now c.node-in-Hair.new.self _ c.node-in-Hair.result c.node-in-Hair.ensures.wrong c.node-in-Hair.ensures.kept)

pub returns-in-OpenLeaf-clause-refused : goal.returns-in-OpenLeaf-clause-refused
returns-in-OpenLeaf-clause-refused t c =
    rw c.in-OpenLeaf.is (one_refused c.args.inst.now c.args.walk.now c.node-in-OpenLeaf.new.self _ c.node-in-OpenLeaf.result (rw c.deref-in-OpenLeaf.ensures.value at c.node-in-OpenLeaf.ensures.wrong) c.node-in-OpenLeaf.ensures.kept)
