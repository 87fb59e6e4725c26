use Rattle.std.proofs.Common.{◌≡◌, ◌≢◌, ◌∙◌, arith, sym}
use Rattle.coord_model.specs.declared.study.RowKind.TheVariants.{Most}
use Rattle.box_bound.proofs.RowParts.{backup_is}
use Rattle.box_bound.proofs.shares.backup_part.Goals as goal

pub returns-clause-exact : goal.returns-clause-exact
returns-clause-exact c =
    let case = c.args.inst.now in
    let row = c.row-row.result in
    let same : row.backup ≡ c.args.relay = omega (arith, c.if-row-relay.false) in
    let other : row.kind ≢ Most = λ is. let absurdly = rw is at (sym c.if-eq.false ∙ c.eq.ensures) in cc in
    let time = rw (← c.row-row.ensures.exact) at c.backup_time.ensures.upper in
    c.weighted.ensures.exact ∙ backup_is case c.args.relay c.args.step c.args.weight row c.backup_time.result.upper c.row-row.ensures.exact same other time
