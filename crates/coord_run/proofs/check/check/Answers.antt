use Rattle.coord_run.specs.Names.{names_data}
use Rattle.coord_run.specs.Check.{CheckCause, IsCheckOutput}
use Rattle.coord_run.proofs.EndLaws.{ends}
use Rattle.coord_run.proofs.MovingLaws.{check_moves}
use Rattle.coord_run.proofs.check.check.Goals as goal

pub returns : goal.returns
returns g c =
    let before = g.F.Folder.state c.args.folder.now in
    let between = g.F.Folder.state c.work-work.new.folder in
    let after = g.F.Folder.state c.hand_over.new.folder in
    let names = names_data c.args.names.now in
    ends names (λ after. CheckCause names before after) (λ after. IsCheckOutput names before after) before between after
    (g.K.Sink.state c.args.out.now) (g.K.Sink.state c.hand_over.new.out) c.hand_over.result (check_moves names before between after)
    c.work-work.result c.work-work.ensures.alone c.work-work.ensures.report c.work-work.ensures.stopped c.hand_over.ensures
