use Rattle.std.proofs.Common.{refl, rules}
use Rattle.coord_run.specs.Names.{names_data}
use Rattle.coord_run.proofs.CheckLaws.{accepted_as, third_read}
use Rattle.coord_run.proofs.ReadingLaws.{alone_twice}
use Rattle.coord_run.proofs.check.work.Goals as goal

pub returns-in_err-claim-clause-stopped : goal.returns-in_err-claim-clause-stopped
returns-in_err-claim-clause-stopped g c =
    let before = g.F.Folder.state c.args.folder.now in
    let between = g.F.Folder.state c.read_case.new.folder in
    let after = g.F.Folder.state c.read_claim.new.folder in
    let cause = third_read (names_data c.args.names.now) before between after c.in_ok-inst.inst c.in_ok-inst.ensures.alone c.in_err-claim.ensures.alone
    c.in_ok-inst.ensures.fits.few_rows c.in_ok-inst.ensures.read c.in_err-claim.field-0.0 c.in_err-claim.ensures.stopped in
    search rules

pub returns-clause-report : goal.returns-clause-report
returns-clause-report g c =
    let before = g.F.Folder.state c.args.folder.now in
    let between = g.F.Folder.state c.read_case.new.folder in
    let after = g.F.Folder.state c.read_claim.new.folder in (
      accepted_as (names_data c.args.names.now) before between after c.in_ok-inst.inst c.in_ok-inst.ensures.alone c.in_ok-claim.ensures.alone
          c.in_ok-inst.ensures.fits.few_rows c.in_ok-inst.ensures.read c.in_ok-claim.claim c.in_ok-report.report.items
          c.in_ok-claim.ensures.accepted c.in_ok-claim.ensures.below_all c.in_ok-report.ensures,
      refl,
      refl,
    )

pub returns-in_err-report-clause-alone : goal.returns-in_err-report-clause-alone
returns-in_err-report-clause-alone g c =
    let before = g.F.Folder.state c.args.folder.now in
    let between = g.F.Folder.state c.read_case.new.folder in
    let after = g.F.Folder.state c.read_claim.new.folder in
    alone_twice before between after c.in_ok-inst.ensures.alone c.in_ok-claim.ensures.alone

pub returns-clause-alone : goal.returns-clause-alone
returns-clause-alone g c =
    let before = g.F.Folder.state c.args.folder.now in
    let between = g.F.Folder.state c.read_case.new.folder in
    let after = g.F.Folder.state c.read_claim.new.folder in
    alone_twice before between after c.in_ok-inst.ensures.alone c.in_ok-claim.ensures.alone
