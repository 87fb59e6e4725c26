use Rattle.coord_words.specs.SolveWords.{SolveWords}
use Rattle.coord_run.proofs.AnswerLaws.{must_solve}
use Rattle.coord_run.proofs.HeadlineLaws.{headline}
use Rattle.coord_run.proofs.solve.solve_with.Goals as goal

pub returns-clause-headline : goal.returns-clause-headline
returns-clause-headline g c =
    let asked : SolveWords = record {
      names = record { network = c.args.network.now; currents = c.args.currents.now; sheet = c.args.sheet.now; cert = c.args.cert.now };
      gap = c.args.gap;
      budget = c.args.budget;
    } in
    headline asked (g.F.Folder.state c.args.folder.now) (g.F.Folder.state c.solve.new.folder) (g.K.Sink.state c.args.out.now) (g.K.Sink.state c.solve.new.out)
    c.solve.result c.solve.ensures

pub returns-clause-answers : goal.returns-clause-answers
returns-clause-answers g c =
    let asked : SolveWords = record {
      names = record { network = c.args.network.now; currents = c.args.currents.now; sheet = c.args.sheet.now; cert = c.args.cert.now };
      gap = c.args.gap;
      budget = c.args.budget;
    } in
    must_solve asked (g.F.Folder.state c.args.folder.now) (g.F.Folder.state c.solve.new.folder) (g.K.Sink.state c.args.out.now) (g.K.Sink.state c.solve.new.out)
    c.solve.result c.solve.ensures
