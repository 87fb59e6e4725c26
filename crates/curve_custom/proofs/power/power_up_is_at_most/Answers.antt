-- A power that is past the number stays past it.
use Rattle.std.proofs.Common.{◌<◌, ◌≤◌, IsTrue, false, arith}
use Rattle.coord_model.specs.CustomRoot.{power_up}
use Rattle.coord_model.proofs.CustomPowers.{up_stays}
use Rattle.curve_custom.proofs.power.power_up_is_at_most.Goals as goal

pub returns-then-power-number : goal.returns-then-power-number
returns-then-power-number c =
    let past : c.args.number < power_up c.args.r c.args.times =
    up_stays c.args.r c.loop.counter c.args.times c.args.number (omega arith) (omega arith) (grind arith) in
    ((λ (no : IsTrue false). absurd (let wrong = no in cc)), λ (within : power_up c.args.r c.args.times ≤ c.args.number). absurd (omega (arith, past, within)))
