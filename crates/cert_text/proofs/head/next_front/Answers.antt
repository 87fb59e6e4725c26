use Rattle.std.proofs.Common.{◌≡◌, ℕ, List, [], ◌∷◌, ◌++◌, Option, sym, subst}
use Rattle.std.specs.Prelude.{IfSome}
use Rattle.cert_text.specs.HeadScan.{HeadTo}
use Rattle.cert_text.specs.declared.head.Front.{Front}
use Rattle.cert_text.specs.declared.kinds.CertHead.{CertHead}
use Rattle.cert_text.specs.declared.kinds.CertKind.{CertKind}
use Rattle.cert_text.specs.declared.kinds.CertKind.TheVariants as kind
use Rattle.cert_text.proofs.head.next_front.Goals as goal

-- a kind by its name
goes_as : (due at : CertKind) → due ≡ at → (head : CertHead) (line : List ℕ) (read : Option Front)
    → IfSome read (λ next. (lines : List (List ℕ)) → HeadTo at lines head → HeadTo next.due (lines ++ line ∷ []) next.head)
    → IfSome read (λ next. (lines : List (List ℕ)) → HeadTo due lines head → HeadTo next.due (lines ++ line ∷ []) next.head)
goes_as due at is head line read goes = subst (λ k. IfSome read (λ next. (lines : List (List ℕ)) → HeadTo k lines head → HeadTo next.due (lines ++ line ∷ []) next.head)) (sym is) goes

pub returns-in-Format-clause-goes : goal.returns-in-Format-clause-goes
returns-in-Format-clause-goes c = goes_as c.args.due kind.Format c.in-Format.is c.args.head c.args.line.now c.next_format.result c.next_format.ensures.goes

pub returns-in-Study-clause-goes : goal.returns-in-Study-clause-goes
returns-in-Study-clause-goes c = goes_as c.args.due kind.Study c.in-Study.is c.args.head c.args.line.now c.next_study.result c.next_study.ensures.goes

pub returns-in-Ending-clause-goes : goal.returns-in-Ending-clause-goes
returns-in-Ending-clause-goes c = goes_as c.args.due kind.Ending c.in-Ending.is c.args.head c.args.line.now c.next_ending.result c.next_ending.ensures.goes

pub returns-in-Gap-clause-goes : goal.returns-in-Gap-clause-goes
returns-in-Gap-clause-goes c = goes_as c.args.due kind.Gap c.in-Gap.is c.args.head c.args.line.now c.next_gap.result c.next_gap.ensures.goes

pub returns-in-Budget-clause-goes : goal.returns-in-Budget-clause-goes
returns-in-Budget-clause-goes c = goes_as c.args.due kind.Budget c.in-Budget.is c.args.head c.args.line.now c.next_budget.result c.next_budget.ensures.goes

pub returns-in-Boxes-clause-goes : goal.returns-in-Boxes-clause-goes
returns-in-Boxes-clause-goes c = goes_as c.args.due kind.Boxes c.in-Boxes.is c.args.head c.args.line.now c.next_boxes.result c.next_boxes.ensures.goes

pub returns-in-Bound-clause-goes : goal.returns-in-Bound-clause-goes
returns-in-Bound-clause-goes c = goes_as c.args.due kind.Bound c.in-Bound.is c.args.head c.args.line.now c.next_bound.result c.next_bound.ensures.goes

pub returns-in-Cost-clause-goes : goal.returns-in-Cost-clause-goes
returns-in-Cost-clause-goes c = goes_as c.args.due kind.Cost c.in-Cost.is c.args.head c.args.line.now c.next_cost.result c.next_cost.ensures.goes
