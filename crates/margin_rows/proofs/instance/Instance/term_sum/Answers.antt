use Rattle.std.proofs.Common.{◌+◌, ◌*◌, ℕ, arith, subst}
use Rattle.margin_rows.specs.Case.{Case, FitsCase}
use Rattle.margin_rows.specs.Tables.{AreTablesOf}
use Rattle.margin_rows.proofs.Placed.{number_read}
use Rattle.margin_rows.proofs.Summed.{place_within, sum_small}
use Rattle.margin_rows.proofs.instance.Instance.term_sum.Goals as goal

pub returns-clause-small : goal.returns-clause-small
returns-clause-small c =
    let case = c.args.self.now in
    let tables = c.self.inside.tables in
    let F : Case → Type 0 = λ v. FitsCase v × AreTablesOf v tables in
    let holds : FitsCase case × AreTablesOf case tables = subst F c.self.view_is c.self.invariant in
    let at : ℕ = c.args.relay * 64 + c.args.step in
    let read = number_read tables.sums.items c.place.result at c.index.result.now c.place.ensures (place_within case c.args.relay c.args.step _ holds.0 c.requires holds.1.sums.size) c.index.ensures in
    omega (arith, read, holds.1.sums.each c.args.relay c.args.step c.requires, sum_small case c.args.relay c.args.step holds.0 c.requires)
