use Rattle.coord_run.specs.Names.{asked_data}
use Rattle.coord_run.specs.Solve.{IsSolved, SolveCause}
use Rattle.coord_run.proofs.EndLaws.{ends}
use Rattle.coord_run.proofs.MovingLaws.{solved_moves}
use Rattle.coord_run.proofs.solve.solve.Goals as goal

pub returns : goal.returns
returns g c =
    let before = g.F.Folder.state c.args.folder.now in
    let between = g.F.Folder.state c.work-work.new.folder in
    let after = g.F.Folder.state c.hand_over.new.folder in
    let asked = asked_data c.args.asked.now in
    ends asked.names (λ after. SolveCause asked before after) (λ after. IsSolved asked before after) before between after
    (g.K.Sink.state c.args.out.now) (g.K.Sink.state c.hand_over.new.out) c.hand_over.result (solved_moves asked before between after)
    c.work-work.result c.work-work.ensures.alone c.work-work.ensures.solved c.work-work.ensures.stopped c.hand_over.ensures
