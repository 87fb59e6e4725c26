use Rattle.std.proofs.Common.{◌≡◌, ◌≢◌, false, refl, rules}
use Rattle.std.specs.Prelude.{codes}
use Rattle.cert_text.proofs.ScanSteps.{none_stops, some_stops}
use Rattle.cert_text.proofs.scan.CertScan.take_settings.Goals as goal

pub returns-then-ne-clause-stops : goal.returns-then-ne-clause-stops
returns-then-ne-clause-stops c none lines to =
    let not : c.args.line.now ≢ codes "settings none" = λ is. (let same : c.ne.result ≡ false = search rules in cc same) in
    none_stops c.args.self.now.head c.args.line.now c.in-None.is not lines to

pub returns-in_err-read_steps-in-Some-clause-stops : goal.returns-in_err-read_steps-in-Some-clause-stops
returns-in_err-read_steps-in-Some-clause-stops c none lines to =
    some_stops c.args.self.now.head c.args.line.now c.in-Some.field-0 c.in-Some.is (c.in_err-read_steps-in-Some.ensures.no_such refl) lines to
