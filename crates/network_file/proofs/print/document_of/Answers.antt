use Rattle.std.proofs.Common.{arith}
use Rattle.coord_model.specs.declared.kinds.TableName.TheVariants as tables
use Rattle.network_file.specs.Entries.{line_entry, fault_entry, exempt_entry, interval_entry}
use Rattle.network_file.specs.RelayEntries.{relay_entry}
use Rattle.network_file.specs.Told.{told_data}
use Rattle.network_file.proofs.DocumentReads.{array_reads, array_count, told_reads}
use Rattle.toml.specs.View.{array_view, table_view}
use Rattle.network_file.proofs.print.document_of.Goals as goal

pub returns-clause-reads : goal.returns-clause-reads
returns-clause-reads c =
    let told = told_data c.args.told.now in
    rw (c.done.ensures, c.in_ok-put_known.ensures, c.from-intervals.ensures, c.in_ok-put-5.ensures, c.from-5.ensures, c.in_ok-put-4.ensures, c.from-4.ensures, c.in_ok-put-3.ensures, c.from-3.ensures, c.in_ok-put-2.ensures, c.from-2.ensures, c.in_ok-put.ensures, c.from.ensures, c.in_ok-number.ensures, c.new-table.ensures)
    (told_reads (table_view c.in_ok-table.field-0)
    (array_view c.in_ok-array_of.field-0)
    (array_view c.in_ok-array_of-2.field-0)
    (array_view c.in_ok-array_of-3.field-0)
    (array_view c.in_ok-array_of-4.field-0)
    (array_view c.in_ok-array_of-5.field-0)
    told c.requires.keeps c.requires.suits (record {
      study = c.in_ok-table.ensures.reads;
      lines = array_reads (line_entry told.format) tables.Line c.in_ok-array_of.field-0.items c.deref.result.now told.lines c.deref.ensures.value (c.in_ok-array_of.ensures.reads tables.Line);
      line_count = array_count c.in_ok-array_of.field-0.items c.deref.result.now told.lines c.deref.ensures.value (omega (arith, c.in_ok-array_of.ensures.count));
      relays = array_reads (relay_entry told.format) tables.Relay c.in_ok-array_of-2.field-0.items c.deref-2.result.now told.relays c.deref-2.ensures.value (c.in_ok-array_of-2.ensures.reads tables.Relay);
      relay_count = array_count c.in_ok-array_of-2.field-0.items c.deref-2.result.now told.relays c.deref-2.ensures.value (omega (arith, c.in_ok-array_of-2.ensures.count));
      faults = array_reads (fault_entry told.format) tables.Fault c.in_ok-array_of-3.field-0.items c.deref-3.result.now told.faults c.deref-3.ensures.value (c.in_ok-array_of-3.ensures.reads tables.Fault);
      fault_count = array_count c.in_ok-array_of-3.field-0.items c.deref-3.result.now told.faults c.deref-3.ensures.value (omega (arith, c.in_ok-array_of-3.ensures.count));
      exempt = array_reads (exempt_entry told.format) tables.Exempt c.in_ok-array_of-4.field-0.items c.deref-4.result.now told.exempt c.deref-4.ensures.value (c.in_ok-array_of-4.ensures.reads tables.Exempt);
      exempt_count = array_count c.in_ok-array_of-4.field-0.items c.deref-4.result.now told.exempt c.deref-4.ensures.value (omega (arith, c.in_ok-array_of-4.ensures.count));
      intervals = array_reads (interval_entry told.format) tables.Interval c.in_ok-array_of-5.field-0.items c.deref-5.result.now told.intervals c.deref-5.ensures.value (c.in_ok-array_of-5.ensures.reads tables.Interval);
      interval_count = array_count c.in_ok-array_of-5.field-0.items c.deref-5.result.now told.intervals c.deref-5.ensures.value (omega (arith, c.in_ok-array_of-5.ensures.count));
    }))
