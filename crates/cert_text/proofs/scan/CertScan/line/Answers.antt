use Rattle.std.proofs.Common.{◌++◌, ◌∷◌, []}
use Rattle.cert_text.proofs.Beginnings.{begins_at}
use Rattle.cert_text.proofs.scan.CertScan.line.Goals as goal

pub returns-in-Some-clause-begins : goal.returns-in-Some-clause-begins
returns-in-Some-clause-begins c lines to = begins_at c.take.new.self.due _ (lines ++ c.args.line.now ∷ []) (c.in-Some.ensures.goes lines to)
