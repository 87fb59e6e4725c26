use Rattle.std.proofs.Common.{ℕ, ◌<◌}
use Rattle.coord_model.specs.Choice.{choice_data}
use Rattle.cert_check.specs.Claims.{IsOn}
use Rattle.cert_check.proofs.settings.first_off.Given as goal

abbrev pub invariant-loop-relay : goal.invariant-loop-relay
invariant-loop-relay l = (k : ℕ) → k < l.relay → IsOn l.inst (choice_data l.choice) k
