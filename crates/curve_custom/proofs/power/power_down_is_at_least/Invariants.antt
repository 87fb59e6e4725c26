-- So far the power is that of the turns taken.
use Rattle.std.proofs.Common.{◌≡◌}
use Rattle.coord_model.specs.CustomRoot.{power_down}
use Rattle.curve_custom.proofs.power.power_down_is_at_least.Given as goal

abbrev pub invariant-loop : goal.invariant-loop
invariant-loop l = l.power ≡ power_down l.r l.counter
