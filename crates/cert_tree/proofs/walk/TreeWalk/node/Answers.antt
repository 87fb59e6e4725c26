use Rattle.std.proofs.Common.{◌≡◌, ◌+◌, ◌<◌, All, arith, ap, drop, length, sym, subst, ◌∙◌}
use Rattle.margin_rows.specs.Box.{FitsBox}
use Rattle.cert_tree.specs.Counting.{counts_by}
use Rattle.cert_tree.specs.Judgement.{single}
use Rattle.cert_tree.specs.NodeRules.{IsRight}
use Rattle.cert_tree.specs.Room.{box_at}
use Rattle.cert_tree.specs.Walks.{AtFirst, Walk}
use Rattle.cert_tree.specs.declared.counts.Counts.{Counts}
use Rattle.cert_tree.proofs.NodeLaws.{right_not_wrong}
use Rattle.cert_tree.proofs.Rooms.{at_first_due, due_fit, first_fits, one_box, written_back}
use Rattle.cert_tree.proofs.walk.TreeWalk.node.Goals as goal
use Rattle.cert_tree.proofs.walk.TreeWalk.node.Goals.{After-deref_mut}

-- a box is due, and all that are fit
some_due : (c : After-deref_mut) → 0 < length (drop c.self.inside.first c.self.inside.room.items)
some_due c = subst (λ (w : Walk). 0 < length w.due) (sym c.self.view_is) c.requires.due

all_fit : (c : After-deref_mut) → All (FitsBox c.args.inst.now) (drop c.self.inside.first c.self.inside.room.items)
all_fit c = subst (λ (w : Walk). All (FitsBox c.args.inst.now) w.due) (sym c.self.view_is) c.requires.fits

pub take_first-requires-clause-fits : goal.take_first-requires-clause-fits
take_first-requires-clause-fits c = rw c.deref_mut.ensures.value (first_fits c.args.inst.now c.self.inside.room.items c.self.inside.first (some_due c) (all_fit c)).0

pub take_first-requires-clause-room : goal.take_first-requires-clause-room
take_first-requires-clause-room c = rw c.deref_mut.ensures.value c.self.invariant.0

pub invariant_of-self : goal.invariant_of-self
invariant_of-self c =
    let new = c.take_first.new.room in
    let len : length new ≡ c.self.inside.room.len = c.take_first.auto.room ∙ c.deref_mut.ensures.len in
    let boxes : c.and-self-inside.result.boxes ≡ c.self.inside.counts.boxes + c.of.result.boxes = ap (λ (k : Counts). k.boxes) c.and-self-inside.ensures in
    let one : c.of.result.boxes ≡ (counts_by c.args.line).boxes = ap (λ (k : Counts). k.boxes) c.of.ensures in
    rw (written_back new _ _ len) (c.in-Ok.ensures.room, omega (arith, boxes, one, one_box c.args.line, c.self.invariant.1), omega (arith, len, c.self.invariant.2))

pub invariant_of-self-in-Err : goal.invariant_of-self-in-Err
invariant_of-self-in-Err c =
    let new = c.take_first.new.room in
    let len : length new ≡ c.self.inside.room.len = c.take_first.auto.room ∙ c.deref_mut.ensures.len in
    rw (written_back new _ _ len) (c.in-Err.ensures.kept, c.self.invariant.1, omega (arith, len, c.self.invariant.2))

pub returns-in-Ok-clause-fits : goal.returns-in-Ok-clause-fits
returns-in-Ok-clause-fits c =
    let new = c.take_first.new.room in
    let len : length new ≡ c.self.inside.room.len = c.take_first.auto.room ∙ c.deref_mut.ensures.len in
    let some = some_due (goal.at.returns-in-Ok-clause-fits c).After-deref_mut in
    let fit = first_fits c.args.inst.now c.self.inside.room.items c.self.inside.first some (all_fit (goal.at.returns-in-Ok-clause-fits c).After-deref_mut) in
    let right = rw c.deref_mut.ensures.value at c.in-Ok.ensures.right in
    let due = rw c.deref_mut.ensures.value at c.in-Ok.ensures.due in
    rw (written_back new _ _ len) (due_fit c.args.inst.now _ _ c.args.line c.args.weights.now c.in-Ok.given _ right due fit.0 fit.1)

pub returns-in-Err-clause-right : goal.returns-in-Err-clause-right
returns-in-Err-clause-right c = λ at.
    let case = c.args.inst.now in
    let items = c.self.inside.room.items in
    let first = c.self.inside.first in
    let node = single c.args.line c.args.weights.now in
    let some = some_due (goal.at.returns-in-Err-clause-right c).After-deref_mut in
    let now = subst (λ (w : Walk). AtFirst (λ box. IsRight case box node) w.due) (sym c.self.view_is) at in
    let right = at_first_due (λ box. IsRight case box node) items first some now in
    let wrong = rw c.deref_mut.ensures.value at c.in-Err.ensures.wrong in
    absurd (right_not_wrong case (box_at items first) node right c.in-Err.kind wrong.wrong)
