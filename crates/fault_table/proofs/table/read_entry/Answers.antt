use Rattle.std.proofs.Common.{◌≡◌, ℕ, suc, Err, sym, rules}
use Rattle.csv.specs.Records.{fields_of}
use Rattle.coord_model.specs.StudyData.{study_data}
use Rattle.fault_table.specs.Records.{records_left}
use Rattle.fault_table.specs.Table.{entries_from}
use Rattle.fault_table.proofs.TableReads.{entries_from-next, entries_from-fault, entries_from-end, on_true, on_false}
use Rattle.fault_table.proofs.table.read_entry.Goals as goal

pub returns-then-not-branch-clause-next : goal.returns-then-not-branch-clause-next
returns-then-not-branch-clause-next g c =
    λ n. entries_from-end (study_data c.args.study.now) c.args.earlier.now (records_left g.R.Read.remaining (suc n) c.args.reader.now)
    (on_false _ _ _ c.if-not-branch.true c.in_ok-next_record.ensures.next n)

pub returns-in_err-entry-clause-fault : goal.returns-in_err-entry-clause-fault
returns-in_err-entry-clause-fault g c =
    let next = on_true _ _ _ c.if-not-branch.false c.in_ok-next_record.ensures.next in
    let ends : (n : ℕ) → entries_from (study_data c.args.study.now) c.args.earlier.now (records_left g.R.Read.remaining (suc n) c.args.reader.now) ≡ Err c.in_err-entry.field-0.0 =
    λ n. entries_from-fault (study_data c.args.study.now) c.args.earlier.now (fields_of c.next_record.new.fields) (records_left g.R.Read.remaining n c.next_record.new.reader)
    (records_left g.R.Read.remaining (suc n) c.args.reader.now) c.in_err-entry.field-0.0 (next.0 n) (sym c.in_err-entry.ensures.exact) in
    search rules

pub returns-clause-next : goal.returns-clause-next
returns-clause-next g c =
    let next = on_true _ _ _ c.if-not-branch.false c.in_ok-next_record.ensures.next in
    λ n. entries_from-next (study_data c.args.study.now) c.args.earlier.now (fields_of c.next_record.new.fields) (records_left g.R.Read.remaining n c.next_record.new.reader)
    (records_left g.R.Read.remaining (suc n) c.args.reader.now) c.in_ok-entry.entry (next.0 n) (sym c.in_ok-entry.ensures.exact)
