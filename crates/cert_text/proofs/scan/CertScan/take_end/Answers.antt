use Rattle.std.proofs.Common.{◌≡◌, ◌≢◌, false, refl, subst, rules}
use Rattle.std.specs.Prelude.{codes}
use Rattle.cert_text.specs.DueNodes.{stack}
use Rattle.cert_text.specs.ScanState.{settings_with, state_of}
use Rattle.cert_text.specs.Scanning.{ReachedAt}
use Rattle.cert_text.specs.declared.kinds.CertKind.TheVariants as kind
use Rattle.cert_text.proofs.NodeSteps.{end_goes, end_stops}
use Rattle.cert_text.proofs.scan.CertScan.take_end.Goals as goal

pub returns-then-ne-clause-stops : goal.returns-then-ne-clause-stops
returns-then-ne-clause-stops c none lines to =
    let s = state_of c.args.self.now in
    let here = subst (λ k. ReachedAt k s lines) c.requires.due to in
    let not : c.args.line.now ≢ codes "end" = λ is. (let same : c.ne.result ≡ false = search rules in cc same) in
    end_stops s lines c.args.line.now not here.0 here.1

pub returns-clause-goes : goal.returns-clause-goes
returns-clause-goes c lines to =
    let old = c.args.self.now in
    let s = state_of old in
    let here = subst (λ k. ReachedAt k s lines) c.requires.due to in
    let said : c.args.line.now ≡ codes "end" = search rules in
    end_goes s (record { due = kind.After; head = old.head; settings = settings_with old.head.cost old.choice; dues = stack old.dues.depths.items old.dues.pending; taken = old.dues.taken })
    lines c.args.line.now refl refl refl refl said here.0 here.1
