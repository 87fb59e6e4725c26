use Rattle.std.proofs.Common.{◌-◌}
use Rattle.std.specs.List.{sum_by}
use Rattle.margin_rows.specs.Raised.{AreLow, step_sum}
use Rattle.margin_rows.proofs.least.raise_all.Given as goal

abbrev pub invariant-loop : goal.invariant-loop
invariant-loop l = AreLow l.meeting l.inst l.pickups l.dials

abbrev pub decreases-loop : goal.decreases-loop
decreases-loop l = sum_by (λ relay. relay.dial_count) l.inst.study.relays - step_sum l.dials
