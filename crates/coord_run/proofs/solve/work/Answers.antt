use Rattle.std.proofs.Common.{rules}
use Rattle.coord_run.specs.Handing.{output_data}
use Rattle.coord_run.specs.Names.{asked_data}
use Rattle.coord_run.proofs.CertLaws.{cert_fits}
use Rattle.coord_run.proofs.OutcomeLaws.{shown}
use Rattle.coord_run.proofs.SolveLaws.{gap_stops, solved}
use Rattle.coord_run.proofs.solve.work.Goals as goal

pub returns-in_err-outcome-clause-stopped : goal.returns-in_err-outcome-clause-stopped
returns-in_err-outcome-clause-stopped g c =
    let before = g.F.Folder.state c.args.folder.now in
    let after = g.F.Folder.state c.read_case.new.folder in
    let cause = gap_stops (asked_data c.args.asked.now) before after c.in_ok-inst.inst c.in_ok-inst.ensures.fits c.in_ok-inst.ensures.read
    c.in_err-outcome.field-0.0 c.in_err-outcome.ensures.stopped in
    search rules

pub output-requires-clause-shown : goal.output-requires-clause-shown
output-requires-clause-shown g c = shown c.in_ok-inst.inst (asked_data c.args.asked.now) c.in_ok-outcome.outcome c.in_ok-outcome.ensures.comes

pub output-requires-clause-cert : goal.output-requires-clause-cert
output-requires-clause-cert g c = cert_fits c.in_ok-inst.inst (asked_data c.args.asked.now) c.in_ok-outcome.outcome c.requires c.in_ok-outcome.ensures.comes

pub returns-clause-solved : goal.returns-clause-solved
returns-clause-solved g c =
    let before = g.F.Folder.state c.args.folder.now in
    let after = g.F.Folder.state c.read_case.new.folder in
    solved (asked_data c.args.asked.now) before after c.in_ok-inst.inst c.in_ok-inst.ensures.fits c.in_ok-inst.ensures.read
    c.in_ok-outcome.outcome (output_data c.in_ok-output.field-0) c.requires c.in_ok-outcome.ensures.comes c.in_ok-output.ensures.output
