use Rattle.network_file.proofs.ReadsAgain.{relay_plain, relay_reads}
use Rattle.network_file.proofs.entries.RelayEntryEntry.table.Goals as goal

pub returns-clause-reads : goal.returns-clause-reads
returns-clause-reads c =
    rw (
      c.done.ensures,
      c.in_ok-constants.ensures,
      c.in_ok-put_known-2.ensures,
      c.from-2.ensures,
      c.in_ok-put_known.ensures,
      c.from.ensures,
      c.in_ok-number-9.ensures,
      c.in_ok-number-8.ensures,
      c.in_ok-number-7.ensures,
      c.in_ok-number-6.ensures,
      c.in_ok-number-5.ensures,
      c.in_ok-number-4.ensures,
      c.in_ok-number-3.ensures,
      c.in_ok-number-2.ensures,
      c.in_ok-number.ensures,
      c.in_ok-curve.ensures,
      c.in_ok-name-3.ensures.put,
      c.in_ok-name-2.ensures.put,
      c.in_ok-name.ensures.put,
      c.new-table.ensures,
    )
    (relay_reads c.args.format c.args.self.now c.name.ensures.name c.name-2.ensures.name c.name-3.ensures.name c.requires)

pub returns-clause-plain : goal.returns-clause-plain
returns-clause-plain c =
    rw (
      c.done.ensures,
      c.in_ok-constants.ensures,
      c.in_ok-put_known-2.ensures,
      c.from-2.ensures,
      c.in_ok-put_known.ensures,
      c.from.ensures,
      c.in_ok-number-9.ensures,
      c.in_ok-number-8.ensures,
      c.in_ok-number-7.ensures,
      c.in_ok-number-6.ensures,
      c.in_ok-number-5.ensures,
      c.in_ok-number-4.ensures,
      c.in_ok-number-3.ensures,
      c.in_ok-number-2.ensures,
      c.in_ok-number.ensures,
      c.in_ok-curve.ensures,
      c.in_ok-name-3.ensures.put,
      c.in_ok-name-2.ensures.put,
      c.in_ok-name.ensures.put,
      c.new-table.ensures,
    )
    (relay_plain c.args.format c.args.self.now)
