-- The pickups of settings of the first box.
use Rattle.std.proofs.Common.{arith}
use Rattle.coord_model.specs.Choice.{Settings}
use Rattle.margin_rows.specs.Case.{Case}
use Rattle.margin_rows.specs.FirstBox.{IsFirstStep, IsInFirstBox}
use Rattle.margin_rows.specs.Least.{AreFirstPickups}
use Rattle.margin_rows.proofs.Boxed.{pickup_first}
use Rattle.margin_rows.proofs.Within.{each_some}

pub first_pickups : (case : Case) (settings : Settings) → IsInFirstBox case settings → AreFirstPickups case settings.pickup
first_pickups case settings first = record {
  count = first.on_steps.pickups;
  each = each_some settings.pickup (λ i step. IsFirstStep case i step) 0 (λ i below. pickup_first case settings i first (omega (arith, below, first.on_steps.pickups)));
}
