use Rattle.std.proofs.Common.{ℕ, ◌+◌, ◌≤◌, List, length, reverse}
use Rattle.coord_why.specs.Chains.{Follow}
use Rattle.coord_why.specs.Raises.{AreFounded, base_of, IsOnWay, rests_left}
use Rattle.margin_rows.specs.Case.{Case}
use Rattle.coord_why.proofs.back.links_to.Given as goal

abbrev pub invariant-loop-next : goal.invariant-loop-next
invariant-loop-next l = record {
  follows : (case : Case) (pickups : List ℕ) → AreFounded case pickups l.raises → Follow case pickups (base_of l.raises l.next) (reverse l.links.items);
  on_way : IsOnWay l.raises l.last l.next l.links.items;
  few : length l.links.items + rests_left l.next ≤ length l.raises;
}

abbrev pub decreases-loop-next : goal.decreases-loop-next
decreases-loop-next l = rests_left l.next
