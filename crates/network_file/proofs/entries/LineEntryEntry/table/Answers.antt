use Rattle.network_file.proofs.ReadsAgain.{line_reads}
use Rattle.network_file.proofs.entries.LineEntryEntry.table.Goals as goal

pub returns-clause-reads : goal.returns-clause-reads
returns-clause-reads c =
    rw (
      c.done.ensures,
      c.in_ok-name-3.ensures.put,
      c.in_ok-name-2.ensures.put,
      c.in_ok-name.ensures.put,
      c.new-table.ensures,
    )
    (line_reads c.args._format c.args.self.now c.name.ensures.name c.name-2.ensures.name c.name-3.ensures.name)
