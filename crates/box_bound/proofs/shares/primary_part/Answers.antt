use Rattle.std.proofs.Common.{◌≡◌, ◌≢◌, ◌∙◌, arith, sym}
use Rattle.coord_model.specs.declared.study.RowKind.TheVariants.{Least}
use Rattle.box_bound.proofs.RowParts.{primary_is}
use Rattle.box_bound.proofs.shares.primary_part.Goals as goal

pub returns-clause-exact : goal.returns-clause-exact
returns-clause-exact c =
    let case = c.args.inst.now in
    let row = c.row-row.result in
    let same : row.primary ≡ c.args.relay = omega (arith, c.if-row-relay.false) in
    let other : row.kind ≢ Least = λ is. let absurdly = rw is at (sym c.if-eq.false ∙ c.eq.ensures) in cc in
    let time = rw (← c.row-row.ensures.exact) at c.primary_time.ensures.lower in
    c.weighted.ensures.exact ∙ primary_is case c.args.relay c.args.step c.args.weight row c.primary_time.result.lower c.row-row.ensures.exact same other time
