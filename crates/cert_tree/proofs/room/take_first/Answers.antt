use Rattle.std.specs.Prelude.{OnErr, Result, Ok, Err}
use Rattle.std.proofs.Common.{◌≡◌, ◌+◌, ◌-◌, length, get_or, set, arith, subst, ◌∙◌}
use Rattle.std.proofs.lemmas.List.{drop-set-lt, get_or_default, length-set}
use Rattle.coord_model.specs.declared.tree.NodeLine.{NodeLine}
use Rattle.cert_tree.specs.Judgement.{IsRightWith, single}
use Rattle.margin_rows.specs.Box.{Box}
use Rattle.margin_rows.specs.Within.{IsWithin}
use Rattle.cert_tree.specs.Room.{IsRoom, box_at, no_box}
use Rattle.cert_tree.proofs.Rooms.{can_cut, due_halves, due_others, narrowed_room, room_after, spare_before}
use Rattle.cert_tree.proofs.room.take_first.Goals as goal
use Rattle.cert_tree.proofs.room.take_first.Goals.{After-judge, In_ok-given}

pub cut_first-requires-clause-can : goal.cut_first-requires-clause-can
cut_first-requires-clause-can c =
    let case = c.args.inst.now in
    let is = subst (λ (l : NodeLine). IsRightWith case (get_or c.args.room.now c.args.first c.index-room-first.result) (single l c.args.weights.now) c.in_ok-given.given) c.in-Split.is c.in_ok-given.ensures.exact in
    can_cut case c.args.room.now c.args.first c.index-room-first.result c.judge.new.ranges c.args.weights.now c.in_ok-given.given c.requires.place c.in-Split.relay c.in-Split.at is
    (c.in_ok-given.ensures.tight c.in-Split.relay c.in-Split.at c.in-Split.is)

pub returns-in-Split-clause-due : goal.returns-in-Split-clause-due
returns-in-Split-clause-due c =
    let case = c.args.inst.now in
    let room = c.args.room.now in
    let h = c.cut_first.ensures.halves in
    rw c.in-Split.is (due_halves case room c.args.first c.index-room-first.result c.judge.new.ranges c.args.weights.now c.in_ok-given.given c.requires.place c.in-Split.relay c.in-Split.at h.0 h.1 _
    (c.in_ok-given.ensures.tight c.in-Split.relay c.in-Split.at c.in-Split.is) h.2 h.3)

pub returns-in_default-clause-due : goal.returns-in_default-clause-due
returns-in_default-clause-due c =
    due_others c.args.inst.now (box_at c.args.room.now c.args.first) _ c.args.line _ c.in_default.not-Split (drop-set-lt (c.args.first + 1) c.args.room.now c.args.first c.judge.new.ranges (omega arith))

on_err : {X E : Type 0} {P : Type 0} (r : Result X E) → P → OnErr r P
on_err (Ok x) is = tt
on_err (Err e) is = is

-- the first due box is narrowed in its place, which leaves a room
narrowed : (c : After-judge) → IsWithin c.judge.new.ranges (box_at c.args.room.now c.args.first)
narrowed c = subst (IsWithin c.judge.new.ranges) (get_or_default c.args.room.now c.args.first c.index-room-first.result no_box c.requires.place) c.judge.ensures.within

kept : (c : After-judge) → IsRoom (set c.args.room.now c.args.first c.judge.new.ranges) c.args.first
kept c = narrowed_room c.args.room.now c.args.first c.judge.new.ranges c.requires.room c.requires.place (narrowed c)

-- the node was right there
right : (c : In_ok-given) → IsRightWith c.args.inst.now (box_at c.args.room.now c.args.first) (single c.args.line c.args.weights.now) c.in_ok-given.given
right c =
    subst (λ (b : Box). IsRightWith c.args.inst.now b (single c.args.line c.args.weights.now) c.in_ok-given.given)
    (get_or_default c.args.room.now c.args.first c.index-room-first.result no_box c.requires.place) c.in_ok-given.ensures.exact

pub returns-in_err-given-clause-kept : goal.returns-in_err-given-clause-kept
returns-in_err-given-clause-kept c = on_err c.from_residual.result (kept (goal.at.returns-in_err-given-clause-kept c).After-judge)

pub cut_first-requires-clause-spare : goal.cut_first-requires-clause-spare
cut_first-requires-clause-spare c =
    spare_before c.args.room.now c.args.first c.judge.new.ranges c.in-Split.relay c.in-Split.at c.requires.room c.requires.place (narrowed (goal.at.cut_first-requires-clause-spare c).After-judge)
    (cut_first-requires-clause-can c)

pub returns-in-Split-clause-room : goal.returns-in-Split-clause-room
returns-in-Split-clause-room c =
    let count : length c.cut_first.new.room ≡ length c.args.room.now = c.cut_first.auto.room ∙ length-set c.args.room.now c.args.first c.judge.new.ranges in
    room_after c.args.inst.now c.args.room.now c.cut_first.new.room c.args.first (c.args.first - 1) c.args.line c.args.weights.now c.in_ok-given.given c.requires.room c.requires.place
    (right (goal.at.returns-in-Split-clause-room c).In_ok-given) (returns-in-Split-clause-due c) count (omega (arith, count, c.requires.place)) c.cut_first.ensures.alike

pub returns-in_default-clause-room : goal.returns-in_default-clause-room
returns-in_default-clause-room c =
    let new = set c.args.room.now c.args.first c.judge.new.ranges in
    let count : length new ≡ length c.args.room.now = length-set c.args.room.now c.args.first c.judge.new.ranges in
    room_after c.args.inst.now c.args.room.now new c.args.first (c.args.first + 1) c.args.line c.args.weights.now c.in_ok-given.given c.requires.room c.requires.place
    (right (goal.at.returns-in_default-clause-room c).In_ok-given) (returns-in_default-clause-due c) count (omega (arith, count, c.requires.place)) (kept (goal.at.returns-in_default-clause-room c).After-judge).alike
