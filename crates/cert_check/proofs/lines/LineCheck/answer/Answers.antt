use Rattle.std.specs.Prelude.{Option}
use Rattle.std.proofs.Common.{subst}
use Rattle.coord_model.specs.Tree.{nodes_of}
use Rattle.cert_text.specs.CertData.{CertData}
use Rattle.cert_tree.proofs.WalkedTrees.{walk_fails}
use Rattle.cert_check.specs.Rightness.{IsRight}
use Rattle.cert_check.specs.Seen.{Saw}
use Rattle.cert_check.specs.declared.nodes.NodeFault.{NodeFault}
use Rattle.cert_check.proofs.Judging.{right_not_fails, same_text}
use Rattle.cert_check.proofs.lines.LineCheck.answer.Goals as goal

pub returns-in-Some-clause-answers : goal.returns-in-Some-clause-answers
returns-in-Some-clause-answers c = λ bytes saw. record {
  cert = saw.cert;
  text = saw.text;
  box = saw.box;
  first = saw.first;
  fails = (walk_fails c.args.inst.now saw.box saw.cert.tree c.in-Some.fault.number c.in-Some.fault.kind
      (subst (λ (f : Option NodeFault). Saw c.args.inst.now saw.box c.args.self.now.nodes.walk f (nodes_of saw.cert.tree)) c.in-Some.is saw.saw));
}

pub returns-in-Some-clause-accepts : goal.returns-in-Some-clause-accepts
returns-in-Some-clause-accepts c = λ bytes cert saw text right.
    let one = same_text cert saw.cert bytes text saw.text in
    absurd (right_not_fails c.args.inst.now saw.cert saw.box c.in-Some.fault.number c.in-Some.fault.kind (subst (λ (k : CertData). IsRight c.args.inst.now k) one right) saw.first
    (walk_fails c.args.inst.now saw.box saw.cert.tree c.in-Some.fault.number c.in-Some.fault.kind
    (subst (λ (f : Option NodeFault). Saw c.args.inst.now saw.box c.args.self.now.nodes.walk f (nodes_of saw.cert.tree)) c.in-Some.is saw.saw)))
