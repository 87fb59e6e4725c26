use Rattle.network_file.proofs.ReadsAgain.{interval_reads}
use Rattle.network_file.proofs.entries.IntervalEntryEntry.table.Goals as goal

pub returns-clause-reads : goal.returns-clause-reads
returns-clause-reads c =
    rw (
      c.done.ensures,
      c.in_ok-number.ensures,
      c.in_ok-name-2.ensures.put,
      c.in_ok-name.ensures.put,
      c.new-table.ensures,
    )
    (interval_reads c.args._format c.args.self.now c.name.ensures.name c.name-2.ensures.name c.requires)
