use Rattle.coord_run.specs.Causes.{NetworkCause}
use Rattle.coord_run.specs.Pairs.{IsPairsOutput}
use Rattle.coord_words.specs.Words.{only}
use Rattle.coord_run.proofs.EndLaws.{ends}
use Rattle.coord_run.proofs.MovingLaws.{pairs_moves}
use Rattle.coord_run.proofs.pairs.pairs.Goals as goal

pub returns : goal.returns
returns g c =
    let before = g.F.Folder.state c.args.folder.now in
    let between = g.F.Folder.state c.work-work.new.folder in
    let after = g.F.Folder.state c.hand_over.new.folder in
    let names = only c.args.network.now in
    ends names (λ after. NetworkCause before after c.args.network.now) (λ after. IsPairsOutput before after c.args.network.now) before between after
    (g.K.Sink.state c.args.out.now) (g.K.Sink.state c.hand_over.new.out) c.hand_over.result (pairs_moves c.args.network.now before between after)
    c.work-work.result c.work-work.ensures.alone c.work-work.ensures.report c.work-work.ensures.stopped (rw c.only.ensures at c.hand_over.ensures)
