-- Between the two bounds: the lower is at most the root, and nothing above the upper is seen to be.
use Rattle.std.proofs.Common.{◌-◌, ◌≤◌, ℕ}
use Rattle.coord_model.specs.CustomRoot.{IsAtMostRoot, last}
use Rattle.curve_custom.proofs.root.low_end.Given as goal

abbrev pub invariant-loop-low : goal.invariant-loop-low
invariant-loop-low l =
    (l.low ≤ l.top) × (l.top ≤ last) × IsAtMostRoot l.h l.power l.low × ((r : ℕ) → IsAtMostRoot l.h l.power r → r ≤ l.top)

abbrev pub decreases-loop-low : goal.decreases-loop-low
decreases-loop-low l = l.top - l.low
