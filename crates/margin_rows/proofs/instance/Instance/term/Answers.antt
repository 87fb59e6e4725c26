use Rattle.std.proofs.Common.{subst}
use Rattle.margin_rows.specs.Case.{Case, FitsCase}
use Rattle.margin_rows.specs.Tables.{AreTablesOf}
use Rattle.margin_rows.proofs.Listed.{IsTermOf, term_read}
use Rattle.margin_rows.proofs.instance.Instance.term.Goals as goal
use Rattle.margin_rows.proofs.instance.Instance.term.Goals.{After-index}

facts : (c : After-index) → IsTermOf c.args.self.now c.index.result.now
facts c =
    let case = c.args.self.now in
    let tables = c.self.inside.tables in
    let F : Case → Type 0 = λ v. FitsCase v × AreTablesOf v tables in
    let holds : FitsCase case × AreTablesOf case tables = subst F c.self.view_is c.self.invariant in
    term_read case tables.terms.items c.from.result c.args.term c.index.result.now holds.1.terms c.from.ensures c.requires c.index.ensures

pub returns-clause-fault : goal.returns-clause-fault
returns-clause-fault c = (facts (goal.at.returns-clause-fault c).After-index).fault

pub returns-clause-relay : goal.returns-clause-relay
returns-clause-relay c = (facts (goal.at.returns-clause-relay c).After-index).relay
