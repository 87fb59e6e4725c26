use Rattle.std.proofs.Common.{ℕ, ◌-◌, ◌<◌, ◌≤◌}
use Rattle.box_range.specs.Drops.{CanMeet}
use Rattle.box_range.proofs.ends.highest.Given as goal

abbrev pub invariant-search : goal.invariant-search
invariant-search l = record {
  from : l.initial.low ≤ l.low;
  ordered : l.low ≤ l.high;
  to : l.high ≤ l.initial.high;
  met : CanMeet l.inst l.ranges l.kind l.at.row.primary l.low l.at.row;
  unmet : (step : ℕ) → l.high < step → step ≤ l.initial.high → ¬ (CanMeet l.inst l.ranges l.kind l.at.row.primary step l.at.row);
}

abbrev pub decreases-search : goal.decreases-search
decreases-search l = l.high - l.low
