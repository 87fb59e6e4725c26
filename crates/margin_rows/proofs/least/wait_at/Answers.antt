use Rattle.margin_rows.proofs.Raising.{first_step}
use Rattle.margin_rows.proofs.least.wait_at.Goals as goal

pub returns-clause-first : goal.returns-clause-first
returns-clause-first c = first_step c.args.inst.now c.row-at.ensures.fits c.row-at.result.backup c.row-at.ensures.backup
