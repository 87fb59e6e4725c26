use Rattle.std.proofs.Common.{sym, subst}
use Rattle.margin_rows.specs.Box.{Box}
use Rattle.margin_rows.specs.Halves.{AreHalves}
use Rattle.cert_tree.specs.Room.{IsLike, no_box}
use Rattle.cert_tree.proofs.Rooms.{first_behind, like_like, halves_placed, placed_alike}
use Rattle.cert_tree.proofs.room.cut_first.Goals as goal

pub returns-clause-halves : goal.returns-clause-halves
returns-clause-halves c = (
  c.cut_into.new.low,
  c.cut_into.new.high,
  subst (λ (b : Box). AreHalves b c.args.relay c.args.at c.cut_into.new.low c.cut_into.new.high)
      (first_behind c.args.room.now c.split_at_mut-spare.result.1.now c.args.first c.index-due-0.result c.requires.place c.split_at_mut-spare.ensures.back) c.cut_into.ensures.exact,
  halves_placed c.args.room.now c.split_at_mut-spare.result.0.now c.split_at_mut-spare.result.1.now c.args.first c.cut_into.new.low c.cut_into.new.high c.requires.spare c.requires.place
      c.split_at_mut-spare.ensures.front c.split_at_mut-spare.ensures.back,
)

pub returns-clause-alike : goal.returns-clause-alike
returns-clause-alike c =
    let is = first_behind c.args.room.now c.split_at_mut-spare.result.1.now c.args.first c.index-due-0.result c.requires.place c.split_at_mut-spare.ensures.back in
    placed_alike c.args.room.now c.split_at_mut-spare.result.0.now c.split_at_mut-spare.result.1.now c.args.first c.cut_into.new.low c.cut_into.new.high c.requires.alike
    c.split_at_mut-spare.ensures.front c.split_at_mut-spare.ensures.back (λ other all.
    let has = subst (λ (b : Box). IsLike other b) (sym is) (all c.args.first no_box c.requires.place) in
    (like_like _ _ _ has c.cut_into.ensures.low, like_like _ _ _ has c.cut_into.ensures.high))
