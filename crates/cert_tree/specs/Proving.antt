-- What a bound of a box says in the field's words.
use Rattle.std.specs.Prelude.{ℕ, Option, Some, None}
use Rattle.coord_model.specs.Allowed.{IsAllowed}
use Rattle.coord_model.specs.Choice.{Settings}
use Rattle.coord_model.specs.Cost.{CostsAtLeast}
use Rattle.margin_rows.specs.Box.{Box, LiesIn}
use Rattle.margin_rows.specs.Case.{Case}

-- with a bound, all allowed settings of the box cost at least that; with none, no settings of the box are allowed
abbrev pub IsProved : Case → Box → Option ℕ → Type 0
IsProved case box (Some bound) =
    (settings : Settings) → LiesIn box settings → IsAllowed case.study case.currents settings
    → CostsAtLeast case.study case.currents settings bound
IsProved case box None =
    (settings : Settings) → LiesIn box settings → ¬ (IsAllowed case.study case.currents settings)
