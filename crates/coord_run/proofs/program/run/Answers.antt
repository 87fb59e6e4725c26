use Rattle.std.proofs.Common.{subst, Option}
use Rattle.coord_run.specs.Program.{Does}
use Rattle.coord_words.specs.Words.{Command}
use Rattle.coord_run.proofs.AnswerLaws.{must_answer}
use Rattle.coord_run.proofs.HeadlineLaws.{headline}
use Rattle.coord_run.proofs.program.run.Goals as goal

pub returns-clause-headline : goal.returns-clause-headline
returns-clause-headline g c = λ asked is.
    let before = g.F.Folder.state c.args.folder.now in
    let after = g.F.Folder.state c.obey.new.folder in
    let sink_before = g.K.Sink.state c.args.out.now in
    let sink_after = g.K.Sink.state c.obey.new.out in
    headline asked before after sink_before sink_after c.obey.result
    (subst (λ (command : Option Command). Does command before after sink_before sink_after c.obey.result) is c.obey.ensures)

pub returns-clause-answers : goal.returns-clause-answers
returns-clause-answers g c =
    must_answer _ (g.F.Folder.state c.args.folder.now) (g.F.Folder.state c.obey.new.folder) (g.K.Sink.state c.args.out.now) (g.K.Sink.state c.obey.new.out)
    c.obey.result c.obey.ensures
