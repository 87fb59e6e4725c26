use Rattle.std.specs.Prelude.{Option}
use Rattle.std.proofs.Common.{◌≡◌, ◌+◌, None, [], ◌∷◌, ◌++◌, arith, sym, ◌∙◌, subst}
use Rattle.cert_check.specs.Seen.{Saw}
use Rattle.cert_check.specs.declared.nodes.NodeFault.{NodeFault}
use Rattle.cert_check.proofs.LineSteps.{none_there, saw_on}
use Rattle.cert_check.proofs.Seeing.{saw_taken, saw_wrong}
use Rattle.cert_tree.specs.Judgement.{single}
use Rattle.cert_check.proofs.nodes.NodeCheck.take.Goals as goal

pub returns-then-is_some : goal.returns-then-is_some
returns-then-is_some c = λ box nodes saw.
    saw_on c.args.inst.now box c.args.self.now.walk c.args.self.now.fault nodes (single c.args.line c.args.weights.now) (sym c.is_some.ensures ∙ c.if-is_some.true) saw

pub returns-in-Err : goal.returns-in-Err
returns-in-Err c = λ box nodes saw.
    let none : c.args.self.now.fault ≡ None = none_there c.args.self.now.fault (sym c.is_some.ensures ∙ c.if-is_some.false) in
    let seen = subst (λ (f : Option NodeFault). Saw c.args.inst.now box c.args.self.now.walk f nodes) none saw in
    saw_wrong c.args.inst.now box nodes (single c.args.line c.args.weights.now) c.args.self.now.walk (c.nodes.result + 1) c.in-Err.kind seen.0 c.in-Err.ensures.wrong (omega (arith, c.nodes.ensures, c.in-Err.ensures.kept))

pub returns-in_default : goal.returns-in_default
returns-in_default c = λ box nodes saw.
    let none : c.args.self.now.fault ≡ None = none_there c.args.self.now.fault (sym c.is_some.ensures ∙ c.if-is_some.false) in
    let seen = subst (λ (f : Option NodeFault). Saw c.args.inst.now box c.args.self.now.walk f nodes) none saw in
    let node = single c.args.line c.args.weights.now in
    subst (λ (f : Option NodeFault). Saw c.args.inst.now box c.node.new.self f (nodes ++ node ∷ [])) (sym none)
    (saw_taken c.args.inst.now box nodes node c.args.self.now.walk c.node.new.self seen.0 c.in_default.ensures.taken c.in_default.ensures.fits)
