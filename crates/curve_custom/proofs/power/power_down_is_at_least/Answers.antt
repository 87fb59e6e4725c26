-- A power that has reached the number stays above it.
use Rattle.std.proofs.Common.{◌≤◌, arith, refl}
use Rattle.coord_model.specs.CustomRoot.{power_down}
use Rattle.coord_model.proofs.CustomPowers.{down_stays}
use Rattle.curve_custom.proofs.power.power_down_is_at_least.Goals as goal

pub returns-then-power-number : goal.returns-then-power-number
returns-then-power-number c =
    let reached : c.args.number ≤ power_down c.args.r c.args.times =
    down_stays c.args.r c.loop.counter c.args.times c.args.number (omega arith) (omega arith) (grind arith) in
    ((λ _. reached), λ _. refl)
