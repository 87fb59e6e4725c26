use Rattle.csv.specs.Records.{fields_of}
use Rattle.fault_table.proofs.RecordReads.{record_read}
use Rattle.fault_table.proofs.records.next_record.Goals as goal

pub returns-clause-next : goal.returns-clause-next
returns-clause-next g c =
    let reading = c.requires in
    let told = c.in-Ok.ensures in
    record_read g.R.Read.remaining c.args.reader.now c.read_byte_record.new.self c.in-Ok.found (fields_of c.read_byte_record.new.row)
    reading (told.reads reading.untrimmed reading.ready) told.flexible (told.ready reading.untrimmed)
