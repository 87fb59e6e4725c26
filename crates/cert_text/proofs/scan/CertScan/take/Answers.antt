use Rattle.std.proofs.Common.{subst}
use Rattle.cert_text.specs.ScanState.{state_of}
use Rattle.cert_text.specs.Scanning.{ReachedAt}
use Rattle.cert_text.proofs.NodeSteps.{after_stops}
use Rattle.cert_text.proofs.scan.CertScan.take.Goals as goal

pub returns-in-After-clause-stops : goal.returns-in-After-clause-stops
returns-in-After-clause-stops c none lines to =
    let s = state_of c.args.self.now in
    after_stops s lines c.args.line.now (subst (λ k. ReachedAt k s lines) c.in-After.is to)
