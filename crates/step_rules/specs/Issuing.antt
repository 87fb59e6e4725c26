-- Issued settings: with their cost, and those that a step leaves (ours).
use Rattle.std.specs.Prelude.{◌≡◌, ℕ, Option, Some, None}
use Rattle.std.specs.Option.{option_map}
use Rattle.coord_model.specs.Choice.{Settings, choice_data}
use Rattle.margin_rows.specs.Case.{Case}
use Rattle.margin_rows.specs.FirstBox.{IsInFirstBox}
use Rattle.margin_rows.specs.Price.{cost_of}
use Rattle.step_rules.specs.declared.issued.Issued.{Issued}

-- the settings lie in the first box, and this is their cost
pub record IsPriced (case : Case) (issued : Issued) : Type 0 where
  pub first_box : IsInFirstBox case (choice_data issued.choice)
  pub exact : issued.cost ≡ cost_of case (choice_data issued.choice)

-- the settings that are issued
abbrev pub settings_of : Option Issued → Option Settings
settings_of issued = option_map (λ (i : Issued). choice_data i.choice) issued

-- the settings that are issued after a step: the new ones if there are some, else those of before
abbrev pub latest : Option Issued → Option Issued → Option Settings
latest before None = settings_of before
latest before (Some new) = Some (choice_data new.choice)

-- the costs of the settings that are issued
abbrev pub costs : Case → Option Settings → Option ℕ
costs case issued = option_map (cost_of case) issued
