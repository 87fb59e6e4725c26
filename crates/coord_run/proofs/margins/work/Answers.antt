use Rattle.std.proofs.Common.{refl, rules}
use Rattle.std.specs.Option.{option_map}
use Rattle.coord_model.specs.Choice.{choice_data}
use Rattle.coord_run.specs.Names.{names_data}
use Rattle.coord_run.proofs.MarginsLaws.{reported_on, third_read}
use Rattle.coord_run.proofs.margins.work.Goals as goal

pub returns-in_err-choice-clause-stopped : goal.returns-in_err-choice-clause-stopped
returns-in_err-choice-clause-stopped g c =
    let before = g.F.Folder.state c.args.folder.now in
    let between = g.F.Folder.state c.read_case.new.folder in
    let after = g.F.Folder.state c.read_settings.new.folder in
    let cause = third_read (names_data c.args.names.now) before between after c.in_ok-inst.inst c.in_ok-inst.ensures.alone c.in_err-choice.ensures.alone
    c.in_ok-inst.ensures.fits.few_rows c.in_ok-inst.ensures.read c.in_err-choice.field-0.0 c.in_err-choice.ensures.stopped in
    search rules

pub returns-clause-report : goal.returns-clause-report
returns-clause-report g c =
    let before = g.F.Folder.state c.args.folder.now in
    let between = g.F.Folder.state c.read_case.new.folder in
    let after = g.F.Folder.state c.read_settings.new.folder in (
      reported_on (names_data c.args.names.now) before between after c.in_ok-inst.inst c.in_ok-inst.ensures.alone c.in_ok-choice.ensures.alone
          c.in_ok-inst.ensures.fits.few_rows c.in_ok-inst.ensures.read (option_map choice_data c.in_ok-choice.choice) c.in_ok-report.report.items
          c.in_ok-choice.ensures.read c.in_ok-choice.ensures.fit c.in_ok-report.ensures,
      refl,
      refl,
    )
