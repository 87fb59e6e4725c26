-- A choice of settings as plain data, without the room that its vectors hold.
use Rattle.std.specs.Prelude.{ℕ, List}
use Rattle.coord_model.specs.declared.choice.Choice.{Choice}

-- the pickup steps and the dial steps of the relays, in study order
pub record Settings : Type 0 where
  pub pickup : List ℕ
  pub dial : List ℕ

-- the settings that a choice holds
abbrev pub choice_data : Choice → Settings
choice_data choice = record { pickup = choice.pickup.items; dial = choice.dial.items }
