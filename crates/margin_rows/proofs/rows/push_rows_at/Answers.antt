use Rattle.std.proofs.Common.{sym, ap, ◌∙◌}
use Rattle.margin_rows.specs.Waiting.{waits_at, row_from}
use Rattle.margin_rows.proofs.WaitingRows.{passes_yes, passes_no, rows_all, listed_relays}
use Rattle.margin_rows.proofs.rows.push_rows_at.Goals as goal
use Rattle.margin_rows.proofs.rows.push_rows_at.Goals.{then-waits+in_ok-push, else-waits}

pub waits-requires-clause-backup : goal.waits-requires-clause-backup
waits-requires-clause-backup c = (listed_relays c.args.given.now.study c.args.pairs.now c.loop-pair.pair-index _ c.requires.pairs c.loop-pair-test.true).0

pub waits-requires-clause-primary : goal.waits-requires-clause-primary
waits-requires-clause-primary c = (listed_relays c.args.given.now.study c.args.pairs.now c.loop-pair.pair-index _ c.requires.pairs c.loop-pair-test.true).1

pub loop-pair-preserved : goal.loop-pair-preserved
loop-pair-preserved c =
    elim c.if-waits.branch [
      | then-waits+in_ok-push w ↦ passes_yes (waits_at c.args.given.now c.args.fault) (row_from c.args.fault) c.args.pairs.now c.loop-pair.pair-index _ c.args.rows.now.items c.loop-pair.rows.items c.if-waits.rows.items
          c.loop-pair-test.true c.loop-pair.invariant (sym c.waits.ensures ∙ w.if-waits.true) (ap (λ v. v.items) w.rows-is ∙ w.in_ok-push.ensures.items)
      | else-waits w ↦ passes_no (waits_at c.args.given.now c.args.fault) (row_from c.args.fault) c.args.pairs.now c.loop-pair.pair-index (record { backup = 0; primary = 0 }) c.args.rows.now.items c.loop-pair.rows.items c.if-waits.rows.items
          c.loop-pair-test.true c.loop-pair.invariant (sym c.waits.ensures ∙ w.if-waits.false) (ap (λ v. v.items) w.rows-is)
    ]

pub returns : goal.returns
returns c = rows_all c.args.given.now c.args.fault c.args.pairs.now c.loop-pair.pair-index c.args.rows.now.items c.loop-pair.rows.items c.requires.pairs c.loop-pair-test.false c.loop-pair.invariant
