use Rattle.std.proofs.Common.{rules}
use Rattle.coord_model.specs.StudyData.{entries_of, study_data}
use Rattle.coord_run.proofs.ReadingLaws.{alone_twice, inputs_told, second_read}
use Rattle.coord_run.proofs.inputs.read_inputs.Goals as goal

pub returns-in_err-currents-clause-stopped : goal.returns-in_err-currents-clause-stopped
returns-in_err-currents-clause-stopped g c =
    let before = g.F.Folder.state c.args.folder.now in
    let between = g.F.Folder.state c.read_study.new.folder in
    let after = g.F.Folder.state c.read_table.new.folder in
    let cause = second_read before between after c.args.network.now c.args.currents.now (study_data c.in_ok-study.study) c.in_err-currents.field-0.0
    c.in_ok-study.ensures.alone c.in_err-currents.ensures.alone c.in_ok-study.ensures.read c.in_err-currents.ensures.stopped in
    search rules

pub returns-in_err-currents-clause-alone : goal.returns-in_err-currents-clause-alone
returns-in_err-currents-clause-alone g c =
    let before = g.F.Folder.state c.args.folder.now in
    let between = g.F.Folder.state c.read_study.new.folder in
    let after = g.F.Folder.state c.read_table.new.folder in
    alone_twice before between after c.in_ok-study.ensures.alone c.in_err-currents.ensures.alone

pub returns-clause-read : goal.returns-clause-read
returns-clause-read g c =
    let before = g.F.Folder.state c.args.folder.now in
    let between = g.F.Folder.state c.read_study.new.folder in
    let after = g.F.Folder.state c.read_table.new.folder in
    inputs_told before between after c.args.network.now c.args.currents.now (study_data c.in_ok-study.study) (entries_of c.in_ok-currents.currents)
    c.in_ok-study.ensures.alone c.in_ok-currents.ensures.alone c.in_ok-study.ensures.read c.in_ok-currents.ensures.read

pub returns-clause-alone : goal.returns-clause-alone
returns-clause-alone g c =
    let before = g.F.Folder.state c.args.folder.now in
    let between = g.F.Folder.state c.read_study.new.folder in
    let after = g.F.Folder.state c.read_table.new.folder in
    alone_twice before between after c.in_ok-study.ensures.alone c.in_ok-currents.ensures.alone
