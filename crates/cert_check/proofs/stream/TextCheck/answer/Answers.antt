use Rattle.std.proofs.Common.{refl}
use Rattle.cert_check.proofs.WholeCerts.{saw_cert}
use Rattle.cert_check.proofs.stream.TextCheck.answer.Goals as goal

pub returns-in-Some-clause-answers : goal.returns-in-Some-clause-answers
returns-in-Some-clause-answers c = λ bytes reads. c.in-Some.ensures.stops c.args.inst.now bytes reads

pub returns-in-Some-clause-accepts : goal.returns-in-Some-clause-accepts
returns-in-Some-clause-accepts c = λ bytes cert reads text right. absurd ((c.in-Some.ensures.stops c.args.inst.now bytes reads).no_cert cert text.is text.text)

pub answer-requires : goal.answer-requires
answer-requires c = record { known = (c.requires.known.0, saw_cert c.args.inst.now c.args.self.now.lines c.requires.known.0 (c.in-None.ensures.whole refl c.args.inst.now c.requires.known.0 c.requires.known.1)) }

pub returns-in-None-clause-answers : goal.returns-in-None-clause-answers
returns-in-None-clause-answers c = λ bytes reads. c.answer.ensures.answers bytes (saw_cert c.args.inst.now c.args.self.now.lines bytes (c.in-None.ensures.whole refl c.args.inst.now bytes reads))

pub returns-in-None-clause-accepts : goal.returns-in-None-clause-accepts
returns-in-None-clause-accepts c = λ bytes cert reads text right. c.answer.ensures.accepts bytes cert (saw_cert c.args.inst.now c.args.self.now.lines bytes (c.in-None.ensures.whole refl c.args.inst.now bytes reads)) text right
