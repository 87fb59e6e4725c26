use Rattle.std.specs.Prelude.{◌≢◌, ◌↔◌, IsTrue}
use Rattle.std.specs.List.{AllPairs, Contains}
use Rattle.std.proofs.Common.{◌∙◌, ◌≡◌, List, subst, sym}
use Rattle.coord_model.specs.Rows.{is_primary}
use Rattle.coord_model.specs.declared.study.Term.{Term}
use Rattle.margin_rows.specs.Case.{Case, FitsCase, terms_in}
use Rattle.margin_rows.specs.Order.{TermBefore}
use Rattle.margin_rows.specs.Tables.{AreTablesOf}
use Rattle.margin_rows.proofs.RowLaws.{terms_listed, terms_in_order, terms_once}
use Rattle.margin_rows.proofs.instance.Instance.terms.Goals as goal

value : (c : goal.After-as_slice) → c.as_slice.result.now ≡ terms_in c.args.self.now
value c =
    let tables = c.self.inside.tables in
    let F : Case → Type 0 = λ v. FitsCase v × AreTablesOf v tables in
    let holds : FitsCase c.args.self.now × AreTablesOf c.args.self.now tables = subst F c.self.view_is c.self.invariant in
    c.as_slice.ensures.value ∙ holds.1.terms

pub returns-clause-listed : goal.returns-clause-listed
returns-clause-listed c =
    let P : List Term → Type 0 = λ xs. (term : Term) → Contains xs term ↔ IsTrue (is_primary c.args.self.now.study c.args.self.now.currents term.fault term.relay) in
    subst P (sym (value c)) (terms_listed c.args.self.now)

pub returns-clause-ordered : goal.returns-clause-ordered
returns-clause-ordered c =
    let P : List Term → Type 0 = λ xs. AllPairs TermBefore xs in
    subst P (sym (value c)) (terms_in_order c.args.self.now)

pub returns-clause-once : goal.returns-clause-once
returns-clause-once c =
    let P : List Term → Type 0 = λ xs. AllPairs (λ (term other : Term). term ≢ other) xs in
    subst P (sym (value c)) (terms_once c.args.self.now)
