use Rattle.std.proofs.Common.{sym, subst}
use Rattle.margin_rows.specs.Case.{Case}
use Rattle.cert_check.specs.Rightness.{IsRight}
use Rattle.cert_check.proofs.checker.check.Goals as goal

pub returns-clause-accepts : goal.returns-clause-accepts
returns-clause-accepts g c = λ files later cert bytes is will has short text right calm room.
    c.file.ensures.accepts files later cert bytes is will has short text (subst (λ (k : Case). IsRight k cert) (sym c.in_ok-new.ensures) right) calm
