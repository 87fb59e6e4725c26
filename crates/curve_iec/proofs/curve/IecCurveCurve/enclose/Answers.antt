-- The ends are those of the model, which keep the laws at every multiple.
use Rattle.curve_iec.specs.Laws.{keeps}
use Rattle.curve_iec.proofs.curve.IecCurveCurve.enclose.Goals as goal

pub returns-clause-under : goal.returns-clause-under
returns-clause-under c = rw c.ends.ensures (keeps c.args.self.now _ c.requires).under

pub returns-clause-over : goal.returns-clause-over
returns-clause-over c = rw c.ends.ensures (keeps c.args.self.now _ c.requires).over

pub returns-clause-ordered : goal.returns-clause-ordered
returns-clause-ordered c = rw c.ends.ensures (keeps c.args.self.now _ c.requires).ordered

pub returns-clause-narrow : goal.returns-clause-narrow
returns-clause-narrow c = rw c.ends.ensures (keeps c.args.self.now _ c.requires).narrow

pub returns-clause-bounded : goal.returns-clause-bounded
returns-clause-bounded c = rw c.ends.ensures (keeps c.args.self.now _ c.requires).bounded
