use Rattle.margin_rows.proofs.LowestSettings.{low_shown}
use Rattle.margin_rows.proofs.lowest.low_dial.Goals as goal

pub returns : goal.returns
returns c = low_shown c.args.ranges.now.dial c.args.relay c.dial.result c.requires.steps.dial c.dial.ensures
