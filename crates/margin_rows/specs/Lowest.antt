-- The lowest settings of a box, and boxes with one pickup step for each relay (ours).
use Rattle.std.specs.Prelude.{◌≡◌, ℕ, suc, List, map, slice_get, IfSome}
use Rattle.coord_model.specs.Choice.{Settings}
use Rattle.margin_rows.specs.Box.{Box}
use Rattle.margin_rows.specs.declared.span.Steps.{Steps}

-- the lowest step of each span
abbrev pub lowest_of : Box → Settings
lowest_of box = record { pickup = map (λ span. span.low) box.pickup; dial = map (λ span. span.low) box.dial }

-- each span has one step
pub record HaveOneStep (spans : List Steps) : Type 0 where
  pub each : (i : ℕ) → IfSome (slice_get spans i) (λ span. span.past ≡ suc span.low)

-- each pickup span of the box has one step
abbrev pub HasOnePickup : Box → Type 0
HasOnePickup box = HaveOneStep box.pickup
