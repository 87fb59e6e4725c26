use Rattle.std.proofs.Common.{◌≡◌, ◌-◌, [], length}
use Rattle.coord_model.specs.StudyData.{study_data}
use Rattle.coord_model.specs.Limits.{FitsCurrents}
use Rattle.fault_table.specs.Records.{IsReading, records_left}
use Rattle.fault_table.specs.Table.{entries_from}
use Rattle.fault_table.proofs.table.read_entries.Given as goal

abbrev pub invariant-loop-entries : goal.invariant-loop-entries
invariant-loop-entries g l = record {
  reading : IsReading g.R.Read.remaining l.reader;
  fits : FitsCurrents (study_data l.study) l.entries.items;
  same : entries_from (study_data l.study) [] (records_left g.R.Read.remaining 8193 l.initial.reader) ≡ entries_from (study_data l.study) l.entries.items (records_left g.R.Read.remaining (8193 - length l.entries.items) l.reader);
}

abbrev pub decreases-loop-entries : goal.decreases-loop-entries
decreases-loop-entries g l = 8193 - length l.entries.items
