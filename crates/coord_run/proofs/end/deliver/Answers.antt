use Rattle.std.proofs.Common.{refl, subst, List, ℕ}
use Rattle.coord_run.specs.Printing.{Prints}
use Rattle.coord_run.proofs.EndLaws.{delivers_report}
use Rattle.coord_run.proofs.end.deliver.Goals as goal

pub returns-in_default : goal.returns-in_default
returns-in_default g c =
    let folder = g.F.Folder.state c.args.folder.now in
    let sink = g.K.Sink.state c.args.out.now in
    let sink_after = g.K.Sink.state c.print.new.out in
    delivers_report c.args.output.now folder folder sink sink_after c.print.result c.in_default.is refl
    (subst (λ (text : List ℕ). Prints text c.args.output.now.status sink sink_after c.print.result) c.deref.ensures.value c.print.ensures)
