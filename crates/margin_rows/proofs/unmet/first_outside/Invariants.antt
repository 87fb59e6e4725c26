use Rattle.std.proofs.Common.{ℕ, ◌<◌}
use Rattle.std.specs.Prelude.{slice_index}
use Rattle.margin_rows.specs.FirstBox.{IsFirstStep}
use Rattle.margin_rows.proofs.unmet.first_outside.Given as goal

abbrev pub invariant-loop-relay : goal.invariant-loop-relay
invariant-loop-relay l = (k : ℕ) → k < l.relay → IsFirstStep l.inst k (slice_index l.choice.pickup.items k)
