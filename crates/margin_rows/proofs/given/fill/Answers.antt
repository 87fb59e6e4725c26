use Rattle.margin_rows.proofs.Filled.{fill_write, fill_kept}
use Rattle.margin_rows.proofs.given.fill.Goals as goal
use Rattle.margin_rows.proofs.given.fill.Goals.{then-table-place-eq0, else-table-place-eq0}

pub loop-entry-preserved : goal.loop-entry-preserved
loop-entry-preserved c =
    elim c.if-table-place-eq0.branch [
      | then-table-place-eq0 w ↦ fill_write c.args.relays c.args.entries.now c.loop-entry.entry-index _ c.loop-entry.table _ c.from.result c.from-in-loop-entry.result _
          c.loop-entry-test.true c.loop-entry.invariant c.requires.places c.loop-entry.auto.table c.from.ensures c.from-in-loop-entry.ensures w.if-table-place-eq0.true w.table-is
      | else-table-place-eq0 w ↦ fill_kept c.args.relays c.args.entries.now c.loop-entry.entry-index _ c.loop-entry.table _ c.from.result c.from-in-loop-entry.result _
          c.loop-entry-test.true c.loop-entry.invariant c.requires.places c.loop-entry.auto.table c.from.ensures c.from-in-loop-entry.ensures w.if-table-place-eq0.false w.table-is
    ]
