-- How many pickup choices a box has (ours): the product of the numbers of steps in its pickup
-- spans.
use Rattle.std.specs.Prelude.{ℕ, ◌-◌, ◌*◌, List, [], ◌∷◌}
use Rattle.margin_rows.specs.Box.{Box}
use Rattle.margin_rows.specs.declared.span.Steps.{Steps}

-- the product of the numbers of steps
abbrev pub product : List Steps → ℕ
product [] = 1
product (span ∷ spans) = (span.past - span.low) * product spans

-- the pickup choices of the box
abbrev pub choices : Box → ℕ
choices box = product box.pickup
