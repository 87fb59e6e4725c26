use Rattle.std.specs.Prelude.{slice_get}
use Rattle.std.proofs.Common.{ap, ◌∙◌, ◌≡◌, ◌+◌, ℕ, List, Some, get_or, subst}
use Rattle.margin_rows.specs.Case.{Case, FitsCase, row_at}
use Rattle.margin_rows.specs.Tables.{AreTablesOf}
use Rattle.margin_rows.specs.declared.ends.Ends.{Ends}
use Rattle.margin_rows.proofs.Looked.{IsTimeThere, primary_there, ends_read}
use Rattle.margin_rows.proofs.instance.Instance.primary_time.Goals as goal
use Rattle.margin_rows.proofs.instance.Instance.primary_time.Goals.{After-index}

there : (c : After-index) → let r = row_at c.args.self.now c.args.row in IsTimeThere c.args.self.now c.self.inside.tables.times.items r.fault r.primary c.index.result.now.primary c.args.step
there c =
    let case = c.args.self.now in
    let tables = c.self.inside.tables in
    let F : Case → Type 0 = λ v. FitsCase v × AreTablesOf v tables in
    let holds : FitsCase case × AreTablesOf case tables = subst F c.self.view_is c.self.invariant in
    primary_there case tables c.args.row c.args.step c.index.result.now holds.0 holds.1 c.requires.row
    (c.index.ensures ∙ ap (λ (k : ℕ). get_or tables.row_runs.items k c.index.result.now) c.from.ensures) c.requires.step

pub time_in-requires : goal.time_in-requires
time_in-requires c = rw c.as_slice.ensures.value (there (goal.at.time_in-requires c).After-index).within

pub returns-clause-lower : goal.returns-clause-lower
returns-clause-lower c =
    let time = there (goal.at.returns-clause-lower c).After-index in
    let P : List Ends → Type 0 = λ ts. slice_get ts (c.index.result.now.primary + c.args.step) ≡ Some c.time_in.result in
    (ends_read _ c.time_in.result _ time.there (subst P c.as_slice.ensures.value c.time_in.ensures)).0

pub returns-clause-upper : goal.returns-clause-upper
returns-clause-upper c =
    let time = there (goal.at.returns-clause-upper c).After-index in
    let P : List Ends → Type 0 = λ ts. slice_get ts (c.index.result.now.primary + c.args.step) ≡ Some c.time_in.result in
    (ends_read _ c.time_in.result _ time.there (subst P c.as_slice.ensures.value c.time_in.ensures)).1

pub returns-clause-ordinary : goal.returns-clause-ordinary
returns-clause-ordinary c = (there (goal.at.returns-clause-ordinary c).After-index).ordinary
