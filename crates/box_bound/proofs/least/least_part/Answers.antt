use Rattle.std.proofs.Common.{rules, List, subst}
use Rattle.std.proofs.lemmas.Int.{to_z-of_z}
use mir.Syntax.{w128}
use mir.Val.{SFits}
use Rattle.coord_model.specs.declared.weights.Weight.{Weight}
use Rattle.box_bound.specs.RelayParts.{IsLeastPart, dials_of, pickups_of}
use Rattle.box_bound.proofs.Counting.{fit_touching, least_of_all}
use Rattle.box_bound.proofs.least.least_part.Goals as goal

pub least_over-requires-clause-weighed : goal.least_over-requires-clause-weighed
least_over-requires-clause-weighed c =
    rw c.touching-count.ensures.front (record { filled = c.requires.weighed.filled; fit = fit_touching c.args.inst.now c.args.relay c.args.weights.now c.requires.weighed.fit })

pub returns-clause-exact : goal.returns-clause-exact
returns-clause-exact c =
    let case = c.args.inst.now in
    let i = c.args.relay in
    let fits : SFits w128 c.least_over.result = search rules in
    let P : List Weight → Type 0 = λ ws. IsLeastPart case c.args.lambda ws i (pickups_of c.args.ranges.now i) (dials_of c.args.ranges.now i) c.least_over.result in
    rw (to_z-of_z w128 c.least_over.result fits)
    (least_of_all case c.args.lambda c.args.weights.now i (pickups_of c.args.ranges.now i) (dials_of c.args.ranges.now i) c.least_over.result (subst P c.touching-count.ensures.front c.least_over.ensures.exact))
