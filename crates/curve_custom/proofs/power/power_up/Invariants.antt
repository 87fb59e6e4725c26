-- So far the power is that of the turns taken.
use Rattle.std.proofs.Common.{◌≡◌}
use Rattle.coord_model.specs.CustomRoot.{power_up}
use Rattle.curve_custom.proofs.power.power_up.Given as goal

abbrev pub invariant-loop : goal.invariant-loop
invariant-loop l = l.power ≡ power_up l.a l.counter
