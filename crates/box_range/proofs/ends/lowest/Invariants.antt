use Rattle.std.proofs.Common.{ℕ, ◌-◌, ◌<◌, ◌≤◌}
use Rattle.box_range.specs.Drops.{CanMeet}
use Rattle.box_range.proofs.ends.lowest.Given as goal

abbrev pub invariant-search : goal.invariant-search
invariant-search l = record {
  from : l.initial.low ≤ l.low;
  ordered : l.low ≤ l.high;
  to : l.high ≤ l.initial.high;
  met : CanMeet l.inst l.ranges l.kind l.at.row.backup l.high l.at.row;
  unmet : (step : ℕ) → l.initial.low ≤ step → step < l.low → ¬ (CanMeet l.inst l.ranges l.kind l.at.row.backup step l.at.row);
}

abbrev pub decreases-search : goal.decreases-search
decreases-search l = l.high - l.low
