-- What drops leave of a whole box is whole.
use Rattle.margin_rows.specs.Box.{Box}
use Rattle.margin_rows.specs.Case.{Case}
use Rattle.margin_rows.proofs.Within.{in_within}
use Rattle.box_range.specs.Drops.{Drops}
use Rattle.box_range.specs.Whole.{IsWhole}
use Rattle.box_range.proofs.Order.{drops_keep, drops_within}

pub drops_whole : (case : Case) (box later : Box) → Drops case box later → IsWhole case box → IsWhole case later
drops_whole case box later drops whole = record {
  holds = λ settings inside pickups met.
      let within = drops_within case box later drops in
      drops_keep case box later settings drops (whole.holds settings inside (in_within later.pickup box.pickup settings.pickup within.pickup pickups) met) met;
}
