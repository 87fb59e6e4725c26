use Rattle.std.proofs.Common.{◌-◌}
use Rattle.coord_model.specs.Choice.{choice_data}
use Rattle.coord_why.specs.Chains.{dial_steps}
use Rattle.coord_why.specs.Climbs.{IsClimb}
use Rattle.margin_rows.specs.Raised.{step_sum}
use Rattle.coord_why.proofs.climb.raise_all.Given as goal

abbrev pub invariant-loop-climb : goal.invariant-loop-climb
invariant-loop-climb l = IsClimb l.inst (choice_data l.choice) l.climb

abbrev pub decreases-loop-climb : goal.decreases-loop-climb
decreases-loop-climb l = dial_steps l.inst.study - step_sum l.climb.low.dial.items
