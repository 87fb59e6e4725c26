use Rattle.network_file.proofs.ReadsAgain.{study_reads}
use Rattle.network_file.proofs.entries.StudyEntryEntry.table.Goals as goal

pub returns-clause-reads : goal.returns-clause-reads
returns-clause-reads c =
    rw (
      c.done.ensures,
      c.in_ok-number-4.ensures,
      c.in_ok-number-3.ensures,
      c.in_ok-number-2.ensures,
      c.in_ok-number.ensures,
      c.new-table.ensures,
    )
    (study_reads c.args._format c.args.self.now c.requires)
