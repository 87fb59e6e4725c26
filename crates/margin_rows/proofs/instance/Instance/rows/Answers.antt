use Rattle.std.specs.Prelude.{◌≢◌, ◌↔◌}
use Rattle.std.specs.List.{AllPairs, Contains}
use Rattle.std.proofs.Common.{◌∙◌, ◌≡◌, List, subst, sym}
use Rattle.coord_model.specs.declared.study.Row.{Row}
use Rattle.margin_rows.specs.Case.{Case, FitsCase, rows_in}
use Rattle.margin_rows.specs.Order.{IsAsked, RowBefore}
use Rattle.margin_rows.specs.Tables.{AreTablesOf}
use Rattle.margin_rows.proofs.RowLaws.{rows_listed, rows_in_order, rows_once}
use Rattle.margin_rows.proofs.instance.Instance.rows.Goals as goal

value : (c : goal.After-as_slice) → c.as_slice.result.now ≡ rows_in c.args.self.now
value c =
    let tables = c.self.inside.tables in
    let F : Case → Type 0 = λ v. FitsCase v × AreTablesOf v tables in
    let holds : FitsCase c.args.self.now × AreTablesOf c.args.self.now tables = subst F c.self.view_is c.self.invariant in
    c.as_slice.ensures.value ∙ holds.1.rows

pub returns-clause-listed : goal.returns-clause-listed
returns-clause-listed c =
    let P : List Row → Type 0 = λ xs. (row : Row) → Contains xs row ↔ IsAsked row.kind c.args.self.now row in
    subst P (sym (value c)) (rows_listed c.args.self.now)

pub returns-clause-ordered : goal.returns-clause-ordered
returns-clause-ordered c =
    let P : List Row → Type 0 = λ xs. AllPairs RowBefore xs in
    subst P (sym (value c)) (rows_in_order c.args.self.now)

pub returns-clause-once : goal.returns-clause-once
returns-clause-once c =
    let P : List Row → Type 0 = λ xs. AllPairs (λ (row other : Row). row ≢ other) xs in
    subst P (sym (value c)) (rows_once c.args.self.now)
