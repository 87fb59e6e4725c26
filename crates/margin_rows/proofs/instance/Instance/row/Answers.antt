use Rattle.std.proofs.Common.{subst}
use Rattle.margin_rows.specs.Case.{Case, FitsCase}
use Rattle.margin_rows.specs.Tables.{AreTablesOf}
use Rattle.margin_rows.proofs.Listed.{IsRowOf, row_read}
use Rattle.margin_rows.proofs.instance.Instance.row.Goals as goal
use Rattle.margin_rows.proofs.instance.Instance.row.Goals.{After-index}

facts : (c : After-index) → IsRowOf c.args.self.now c.index.result.now
facts c =
    let case = c.args.self.now in
    let tables = c.self.inside.tables in
    let F : Case → Type 0 = λ v. FitsCase v × AreTablesOf v tables in
    let holds : FitsCase case × AreTablesOf case tables = subst F c.self.view_is c.self.invariant in
    row_read case tables.rows.items c.from.result c.args.row c.index.result.now holds.1.rows c.from.ensures c.requires c.index.ensures

pub returns-clause-fault : goal.returns-clause-fault
returns-clause-fault c = (facts (goal.at.returns-clause-fault c).After-index).fault

pub returns-clause-backup : goal.returns-clause-backup
returns-clause-backup c = (facts (goal.at.returns-clause-backup c).After-index).backup

pub returns-clause-primary : goal.returns-clause-primary
returns-clause-primary c = (facts (goal.at.returns-clause-primary c).After-index).primary
