use Rattle.cert_check.proofs.LineSteps.{no_line_bad}
use Rattle.cert_check.proofs.lines.LineCheck.refuse.Goals as goal

pub returns : goal.returns
returns c = λ case lines line goes none.
    no_line_bad case c.args.self.now lines line c.next.result.line c.next.result.kind goes c.next.ensures.line c.next.ensures.kind none
