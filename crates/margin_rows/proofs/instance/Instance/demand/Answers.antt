use Rattle.std.proofs.Common.{◌≡◌, ap, arith, subst}
use Rattle.margin_rows.specs.Case.{Case, FitsCase, row_at}
use Rattle.margin_rows.specs.Demands.{demand_of}
use Rattle.margin_rows.specs.Tables.{AreTablesOf}
use Rattle.margin_rows.specs.declared.demand.Demand.{Demand}
use Rattle.margin_rows.proofs.Demands.{demand_read, asked_small, granted_small}
use Rattle.margin_rows.proofs.instance.Instance.demand.Goals as goal
use Rattle.margin_rows.proofs.instance.Instance.demand.Goals.{After-index}

is : (c : After-index) → FitsCase c.args.self.now × (c.index.result.now ≡ demand_of c.args.self.now.study (row_at c.args.self.now c.args.row))
is c =
    let case = c.args.self.now in
    let tables = c.self.inside.tables in
    let F : Case → Type 0 = λ v. FitsCase v × AreTablesOf v tables in
    let holds : FitsCase case × AreTablesOf case tables = subst F c.self.view_is c.self.invariant in
    (holds.0, demand_read case tables.demands.items c.from.result c.args.row c.index.result.now holds.1.demands c.from.ensures c.requires c.index.ensures)

pub returns-clause-asked_small : goal.returns-clause-asked_small
returns-clause-asked_small c =
    let there = is (goal.at.returns-clause-asked_small c).After-index in
    omega (arith, ap (λ (d : Demand). d.asked) there.1, asked_small c.args.self.now.study (row_at c.args.self.now c.args.row) there.0.study)

pub returns-clause-granted_small : goal.returns-clause-granted_small
returns-clause-granted_small c =
    let there = is (goal.at.returns-clause-granted_small c).After-index in
    omega (arith, ap (λ (d : Demand). d.granted) there.1, granted_small c.args.self.now.study (row_at c.args.self.now c.args.row) there.0.study)
