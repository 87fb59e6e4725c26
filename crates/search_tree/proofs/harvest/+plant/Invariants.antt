use Rattle.std.proofs.Common.{length, ◌-◌}
use Rattle.search_tree.proofs.harvest.+plant.Given as goal

abbrev pub decreases-plant : goal.decreases-plant
decreases-plant g l = length l.slots.now.items - l.number
