-- Between the two bounds: the lower is at most the root, and nothing above the upper is seen to be.
use Rattle.std.proofs.Common.{◌-◌, ◌≤◌, ℕ}
use Rattle.root_interval.specs.Power.{last}
use Rattle.root_interval.specs.Root.{IsAtMostRoot}
use Rattle.root_interval.proofs.root.low_end.Given as goal

abbrev pub invariant-loop-low : goal.invariant-loop-low
invariant-loop-low l =
    (l.low ≤ l.top) × (l.top ≤ last) × IsAtMostRoot l.num l.den l.low × ((r : ℕ) → IsAtMostRoot l.num l.den r → r ≤ l.top)

abbrev pub decreases-loop-low : goal.decreases-loop-low
decreases-loop-low l = l.top - l.low
