use Rattle.std.proofs.Common.{◌≡◌, Ok}
use Rattle.coord_model.specs.StudyData.{study_data}
use Rattle.network_file.specs.Network.{network_of}
use Rattle.coord_run.proofs.ReadingLaws.{held_as, network_faulty}
use Rattle.coord_run.proofs.inputs.read_study.Goals as goal

pub returns-in-Ok-clause-read : goal.returns-in-Ok-clause-read
returns-in-Ok-clause-read g c =
    let before = g.F.Folder.state c.args.folder.now in
    let after = g.F.Folder.state c.read_file.new.folder in
    held_as before after c.args.name.now c.in_ok-bytes.bytes.items (λ b. network_of b ≡ Ok (study_data c.in-Ok.study))
    c.in_ok-bytes.ensures.within c.in_ok-bytes.ensures.read (rw c.as_slice.ensures.value at c.in-Ok.ensures.exact)

pub returns-clause-stopped : goal.returns-clause-stopped
returns-clause-stopped g c =
    let before = g.F.Folder.state c.args.folder.now in
    let after = g.F.Folder.state c.read_file.new.folder in
    network_faulty before after c.args.name.now c.in_ok-bytes.bytes.items c.in-Err.fault c.network_stop.result
    c.in_ok-bytes.ensures.within c.in_ok-bytes.ensures.read (rw c.as_slice.ensures.value at c.in-Err.ensures.exact) c.network_stop.ensures
