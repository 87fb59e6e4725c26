use Rattle.std.proofs.Common.{sym, ap, ◌∙◌}
use Rattle.relay_pairs.proofs.Counted.{kept_yes, kept_no}
use Rattle.relay_pairs.proofs.backing.push_pairs_behind.Goals as goal
use Rattle.relay_pairs.proofs.backing.push_pairs_behind.Goals.{then-backs+in_ok-push, else-backs}

pub loop-backup-preserved : goal.loop-backup-preserved
loop-backup-preserved c =
    elim c.if-backs.branch [
      | then-backs+in_ok-push w ↦ kept_yes _ _ c.loop-backup.backup c.args.pairs.now.items c.loop-backup.pairs.items c.if-backs.pairs.items
          c.loop-backup.invariant (sym c.backs.ensures ∙ w.if-backs.true) (ap (λ v. v.items) w.pairs-is ∙ w.in_ok-push.ensures.items)
      | else-backs w ↦ kept_no _ _ c.loop-backup.backup c.args.pairs.now.items c.loop-backup.pairs.items c.if-backs.pairs.items
          c.loop-backup.invariant (sym c.backs.ensures ∙ w.if-backs.false) (ap (λ v. v.items) w.pairs-is)
    ]
