use Rattle.coord_run.proofs.CheckLaws.{cert_stops, refused_about}
use Rattle.coord_run.proofs.check.read_claim.Goals as goal

pub cert_stop-requires : goal.cert_stop-requires
cert_stop-requires g c =
    refused_about c.args.inst.now c.args.name.now (g.F.Folder.state c.args.folder.now) (g.F.Folder.state c.check.new.folder) c.in-Err.refusal c.in-Err.ensures.checks

pub returns-in-Err-clause-stopped : goal.returns-in-Err-clause-stopped
returns-in-Err-clause-stopped g c =
    cert_stops c.args.inst.now c.args.name.now (g.F.Folder.state c.args.folder.now) (g.F.Folder.state c.check.new.folder) c.in-Err.refusal c.cert_stop.result
    c.in-Err.ensures.checks c.cert_stop.ensures
