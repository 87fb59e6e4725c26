use Rattle.std.specs.Prelude.{slice_get}
use Rattle.std.proofs.Common.{arith, sym, ◌≡◌, ◌+◌, List, Some, subst}
use Rattle.margin_rows.specs.Case.{Case, FitsCase, term_at}
use Rattle.margin_rows.specs.Tables.{AreTablesOf}
use Rattle.margin_rows.specs.declared.ends.Ends.{Ends}
use Rattle.margin_rows.proofs.Looked.{IsTimeThere, term_there, ends_read}
use Rattle.margin_rows.proofs.Placed.{number_read}
use Rattle.margin_rows.proofs.instance.Instance.term_time.Goals as goal
use Rattle.margin_rows.proofs.instance.Instance.term_time.Goals.{After-index-start}

there : (c : After-index-start) → let t = term_at c.args.self.now c.args.term in IsTimeThere c.args.self.now c.self.inside.tables.times.items t.fault t.relay c.index-start.result.now c.args.step
there c =
    let case = c.args.self.now in
    let tables = c.self.inside.tables in
    let F : Case → Type 0 = λ v. FitsCase v × AreTablesOf v tables in
    let holds : FitsCase case × AreTablesOf case tables = subst F c.self.view_is c.self.invariant in
    term_there case tables c.args.term c.args.step c.index-start.result.now holds.0 holds.1 c.requires.term
    (sym (number_read tables.term_runs.items c.from.result c.args.term c.index-start.result.now c.from.ensures (omega (arith, holds.1.term_runs.count, c.requires.term)) c.index-start.ensures)) c.requires.step

pub time_in-ends-requires : goal.time_in-ends-requires
time_in-ends-requires c = rw c.as_slice.ensures.value (there (goal.at.time_in-ends-requires c).After-index-start).within

pub returns-clause-lower : goal.returns-clause-lower
returns-clause-lower c =
    let time = there (goal.at.returns-clause-lower c).After-index-start in
    let P : List Ends → Type 0 = λ ts. slice_get ts (c.index-start.result.now + c.args.step) ≡ Some c.time_in-ends.result in
    (ends_read _ c.time_in-ends.result _ time.there (subst P c.as_slice.ensures.value c.time_in-ends.ensures)).0

pub returns-clause-upper : goal.returns-clause-upper
returns-clause-upper c =
    let time = there (goal.at.returns-clause-upper c).After-index-start in
    let P : List Ends → Type 0 = λ ts. slice_get ts (c.index-start.result.now + c.args.step) ≡ Some c.time_in-ends.result in
    (ends_read _ c.time_in-ends.result _ time.there (subst P c.as_slice.ensures.value c.time_in-ends.ensures)).1

pub returns-clause-ordinary : goal.returns-clause-ordinary
returns-clause-ordinary c = (there (goal.at.returns-clause-ordinary c).After-index-start).ordinary
