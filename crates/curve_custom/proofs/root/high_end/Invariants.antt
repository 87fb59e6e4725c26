-- Between the two bounds: the upper is at least the root, and nothing below the lower is seen to be.
use Rattle.std.proofs.Common.{◌-◌, ◌≤◌, ℕ}
use Rattle.coord_model.specs.CustomRoot.{IsAtLeastRoot, one}
use Rattle.curve_custom.proofs.root.high_end.Given as goal

abbrev pub invariant-loop-bottom : goal.invariant-loop-bottom
invariant-loop-bottom l =
    (one ≤ l.bottom) × (l.bottom ≤ l.high) × IsAtLeastRoot l.h l.power l.high × ((r : ℕ) → IsAtLeastRoot l.h l.power r → l.bottom ≤ r)

abbrev pub decreases-loop-bottom : goal.decreases-loop-bottom
decreases-loop-bottom l = l.high - l.bottom
