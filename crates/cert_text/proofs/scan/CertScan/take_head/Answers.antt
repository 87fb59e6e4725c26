use Rattle.std.proofs.Common.{[], ◌∷◌, ◌++◌}
use Rattle.cert_text.specs.DueNodes.{stack}
use Rattle.cert_text.specs.ScanState.{settings_with, state_of}
use Rattle.cert_text.proofs.ScanSteps.{front_reached, head_reached}
use Rattle.cert_text.proofs.scan.CertScan.take_head.Goals as goal

pub returns-clause-goes : goal.returns-clause-goes
returns-clause-goes c lines to =
    let next = c.in_ok-next.next in
    let old = c.args.self.now in
    front_reached next.due c.in_ok-next.ensures.front
    (record { due = next.due; head = next.head; settings = settings_with next.head.cost old.choice; dues = stack old.dues.depths.items old.dues.pending; taken = old.dues.taken })
    (lines ++ c.args.line.now ∷ []) (c.in_ok-next.ensures.goes lines (head_reached old.due c.requires.front (state_of old) lines to))
