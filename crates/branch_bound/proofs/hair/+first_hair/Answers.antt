use Rattle.std.proofs.Common.{ap, inl}
use Rattle.std.proofs.lemmas.Result.{IfOk-weaker}
use Rattle.coord_model.specs.Choice.{choice_data}
use Rattle.coord_model.specs.Tree.{shape}
use Rattle.branch_bound.proofs.Hairs.{high_hair, split_hair, split_tight}
use Rattle.branch_bound.proofs.hair.+first_hair.Goals as goal

pub returns-in-Some : goal.returns-in-Some
returns-in-Some t c =
    let case = c.args.inst.now in
    let tree = shape c.args.node.now in
    let left = c.tighten.new.ranges in
    let no_more = split_tight case c.args.ranges left _ _ _ _ tree (ap shape c.in-Split.is) c.requires.right (λ other drops tight. (c.tighten.ensures.only other drops tight).1) in
    split_hair case c.args.ranges left c.in_ok-lower-in-Split.lower c.in_ok-lower-in-Split.upper _ _ c.in-Some.place.row _ _ tree (choice_data c.in-Some.place.choice) (ap shape c.in-Split.is)
    c.tighten.ensures.dropped no_more c.in_ok-lower-in-Split.ensures.exact (inl (rw (c.in-Some.is, c.deref.ensures) at c.in_ok-place-in-Split.ensures))

pub returns-in-Split : goal.returns-in-Split
returns-in-Split t c =
    let case = c.args.inst.now in
    let tree = shape c.args.node.now in
    let left = c.tighten.new.ranges in
    let no_more = split_tight case c.args.ranges left _ _ _ _ tree (ap shape c.in-Split.is) c.requires.right (λ other drops tight. (c.tighten.ensures.only other drops tight).1) in
    IfOk-weaker c.first_hair-in-None.result _ _ (λ found there. high_hair case c.args.ranges left c.in_ok-lower-in-Split.lower c.in_ok-lower-in-Split.upper _ _ _ _ tree found (ap shape c.in-Split.is)
    c.tighten.ensures.dropped no_more c.in_ok-lower-in-Split.ensures.exact (rw (c.in-None.is, c.deref.ensures) at c.in_ok-place-in-Split.ensures) (rw c.deref-in-None.ensures at there)) c.first_hair-in-None.ensures
