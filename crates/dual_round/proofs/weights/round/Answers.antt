use Rattle.std.proofs.Common.{get_or}
use Rattle.std.proofs.lemmas.List.Elements.{Contains-get_or}
use Rattle.dual_round.proofs.Weighed.{weighed_apart, weighed_some}
use Rattle.dual_round.proofs.weights.round.Goals as goal

pub largest-requires : goal.largest-requires
largest-requires c = record { distinct = rw c.in_ok-weights.ensures (weighed_apart c.args.places c.args.rows.now c.requires.distinct) }

pub returns-clause-kept : goal.returns-clause-kept
returns-clause-kept c = rw c.in_ok-weights.ensures at c.largest.ensures.kept

pub returns-clause-at_least_one : goal.returns-clause-at_least_one
returns-clause-at_least_one c k d within =
    let kept = rw c.in_ok-weights.ensures at c.largest.ensures.kept in
    let w = get_or c.largest.result.items k d in
    weighed_some c.args.places c.args.rows.now w ((kept w).0 (Contains-get_or c.largest.result.items k d within)).0
