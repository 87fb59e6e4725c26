use Rattle.std.proofs.Common.{sym, subst}
use Rattle.margin_rows.specs.Case.{Case}
use Rattle.cert_check.specs.Checking.{Checks}
use Rattle.cert_check.specs.Rightness.{IsRight}
use Rattle.cert_check.proofs.Answering.{answered, bytes_read, no_memory}
use Rattle.cert_check.proofs.checker.Checker.file.Goals as goal

pub answer-requires : goal.answer-requires
answer-requires g c = let read = c.in-Ok.ensures.read in record { known = (read.bytes, read.reads) }

pub returns-in-Ok-clause-checks : goal.returns-in-Ok-clause-checks
returns-in-Ok-clause-checks g c =
    let read = c.in-Ok.ensures.read in
    subst (λ (k : Case). Checks k c.args.name.now (g.F.Folder.state c.args.folder.now) (g.F.Folder.state c.read_text.new.folder) c.answer.result) c.self.view_is
    (answered _ _ _ _ read.bytes c.answer.result read.whole (c.answer.ensures.answers read.bytes read.reads))

pub returns-in-Ok-clause-accepts : goal.returns-in-Ok-clause-accepts
returns-in-Ok-clause-accepts g c = λ files later cert bytes is will has short text right calm.
    let read = c.in-Ok.ensures.read in
    let same = bytes_read _ _ _ files later bytes read.bytes is will has read.whole in
    c.answer.ensures.accepts read.bytes cert read.reads (rw same at text) (subst (λ (k : Case). IsRight k cert) (sym c.self.view_is) right)

pub returns-in-Ok-clause-memory : goal.returns-in-Ok-clause-memory
returns-in-Ok-clause-memory g c = let read = c.in-Ok.ensures.read in no_memory _ read.bytes c.answer.result (c.answer.ensures.answers read.bytes read.reads)
