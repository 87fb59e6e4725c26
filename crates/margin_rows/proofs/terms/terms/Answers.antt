use Rattle.relay_pairs.proofs.Counted.{piece_yes}
use Rattle.margin_rows.proofs.terms.terms.Goals as goal

pub loop-fault-preserved : goal.loop-fault-preserved
loop-fault-preserved c = piece_yes _ c.loop-fault.fault c.loop-fault.terms.items _ c.loop-fault.invariant c.in_ok-push_terms_at.ensures
