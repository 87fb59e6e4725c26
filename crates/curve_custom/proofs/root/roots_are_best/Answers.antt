use Rattle.curve_custom.specs.EndLaws.{roots_best}
use Rattle.curve_custom.proofs.root.roots_are_best.Goals as goal

pub returns : goal.returns
returns c = roots_best
