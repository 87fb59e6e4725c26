use Rattle.std.proofs.Common.{subst}
use Rattle.margin_rows.specs.Box.{Box}
use Rattle.box_range.specs.Drops.{IsEmptied}
use Rattle.step_rules.specs.Rules.{emptied}
use Rattle.step_rules.proofs.rules.handle.Goals as goal

pub returns-in-Emptied-clause-handled : goal.returns-in-Emptied-clause-handled
returns-in-Emptied-clause-handled g c =
    emptied (subst (λ (b : Box). IsEmptied c.args.inst.now b) c.in_ok-ranges.ensures (c.tighten.ensures.emptied.0 c.in-Emptied.is))
