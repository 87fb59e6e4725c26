-- Between the two bounds: the upper is at least the root, and nothing below the lower is seen to be.
use Rattle.std.proofs.Common.{◌-◌, ◌≤◌, ℕ}
use Rattle.root_interval.specs.Product.{one}
use Rattle.root_interval.specs.Root.{IsAtLeastRoot}
use Rattle.root_interval.proofs.root.high_end.Given as goal

abbrev pub invariant-loop-bottom : goal.invariant-loop-bottom
invariant-loop-bottom l =
    (one ≤ l.bottom) × (l.bottom ≤ l.high) × IsAtLeastRoot l.num l.den l.high × ((r : ℕ) → IsAtLeastRoot l.num l.den r → l.bottom ≤ r)

abbrev pub decreases-loop-bottom : goal.decreases-loop-bottom
decreases-loop-bottom l = l.high - l.bottom
