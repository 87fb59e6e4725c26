use Rattle.coord_run.proofs.DrillLaws.{drilled, found_shown}
use Rattle.coord_run.proofs.drill.work.Goals as goal

pub drill_bytes-requires : goal.drill_bytes-requires
drill_bytes-requires c =
    let found = c.in_ok-outcome.ensures in
    found_shown c.in_ok-inst.inst c.in_ok-outcome.outcome c.in_ok-inst.ensures.fits found.0 found.1 found.2

pub returns : goal.returns
returns c =
    let found = c.in_ok-outcome.ensures in
    drilled c.in_ok-inst.inst c.in_ok-outcome.outcome c.in_ok-inst.ensures.fits found.0 found.1 found.2
    c.args.n c.in_ok-report.report.items c.outcome_status.result c.in_ok-inst.ensures.exact c.outcome_status.ensures c.in_ok-report.ensures
