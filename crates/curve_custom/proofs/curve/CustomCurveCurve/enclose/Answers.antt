-- The ends are those of the enclosure, which keeps all of it.
use Rattle.std.proofs.Common.{sym}
use Rattle.curve_custom.proofs.Given.{Encloses, encloses}
use Rattle.curve_custom.proofs.curve.CustomCurveCurve.enclose.Goals as goal

here : (c : goal.After-ends) → Encloses c.args.self.now (record { num = c.args.num; den = c.args.den }) c.ends.result
here c = encloses c.args.self.now c.self.inside.form (record { num = c.args.num; den = c.args.den }) c.ends.result (sym c.self.view_is) c.self.invariant c.requires c.ends.ensures

pub returns-clause-under : goal.returns-clause-under
returns-clause-under c = (here c).under

pub returns-clause-over : goal.returns-clause-over
returns-clause-over c = (here c).over

pub returns-clause-ordered : goal.returns-clause-ordered
returns-clause-ordered c = (here c).ordered

pub returns-clause-narrow : goal.returns-clause-narrow
returns-clause-narrow c = (here c).narrow

pub returns-clause-bounded : goal.returns-clause-bounded
returns-clause-bounded c = (here c).bounded
