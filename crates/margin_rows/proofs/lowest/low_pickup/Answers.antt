use Rattle.margin_rows.proofs.LowestSettings.{low_shown}
use Rattle.margin_rows.proofs.lowest.low_pickup.Goals as goal

pub returns : goal.returns
returns c = low_shown c.args.ranges.now.pickup c.args.relay c.pickup.result c.requires.steps.pickup c.pickup.ensures
