-- Boxes that lack no settings of their pickups but those that drops take away (ours).
use Rattle.coord_model.specs.Choice.{Settings}
use Rattle.margin_rows.specs.Box.{AreIn, Box, LiesIn}
use Rattle.margin_rows.specs.Case.{Case}
use Rattle.margin_rows.specs.FirstBox.{IsInFirstBox}
use Rattle.box_range.specs.Drops.{MeetsAllLoosely}

-- the box has all settings of the first box with pickups of its spans that loosely meet every row
pub record IsWhole (case : Case) (box : Box) : Type 0 where
  pub holds : (settings : Settings) → IsInFirstBox case settings → AreIn box.pickup settings.pickup
      → MeetsAllLoosely case settings → LiesIn box settings
