use Rattle.std.proofs.Common.{◌≡◌, Ok}
use Rattle.coord_model.specs.StudyData.{entries_of, study_data}
use Rattle.fault_table.specs.Table.{currents_of}
use Rattle.coord_run.proofs.ReadingLaws.{held_as, table_faulty}
use Rattle.coord_run.proofs.inputs.read_table.Goals as goal

pub returns-in-Ok-clause-read : goal.returns-in-Ok-clause-read
returns-in-Ok-clause-read g c =
    let before = g.F.Folder.state c.args.folder.now in
    let after = g.F.Folder.state c.read_file.new.folder in
    held_as before after c.args.name.now c.in_ok-bytes.bytes.items (λ b. currents_of (study_data c.args.study.now) b ≡ Ok (entries_of c.in-Ok.currents))
    c.in_ok-bytes.ensures.within c.in_ok-bytes.ensures.read (rw c.as_slice.ensures.value at c.in-Ok.ensures.exact)

pub returns-clause-stopped : goal.returns-clause-stopped
returns-clause-stopped g c =
    let before = g.F.Folder.state c.args.folder.now in
    let after = g.F.Folder.state c.read_file.new.folder in
    table_faulty before after c.args.name.now (study_data c.args.study.now) c.in_ok-bytes.bytes.items c.in-Err.fault c.table_stop.result
    c.in_ok-bytes.ensures.within c.in_ok-bytes.ensures.read (rw c.as_slice.ensures.value at c.in-Err.ensures.exact) c.table_stop.ensures
