-- One more plain item of an array.
use Rattle.std.proofs.Common.{◌≡◌, ℕ, ◌≤◌, true, List, [], ◌∷◌, ◌++◌, arith}
use Rattle.std.proofs.lemmas.Bool.{and_parts}
use Rattle.network_file.specs.Printed.{ArePlain}
use Rattle.toml.specs.Data.{depth, has_valid_dates, items_have_valid_dates}
use Rattle.toml.specs.View.{view, items_view}
use Rattle.toml.specs.declared.value.Value.{Value}

pub plain_push : (deepest : ℕ) (values : List Value) (value : Value) → ArePlain deepest (items_view values)
    → depth (view value) ≤ deepest → has_valid_dates (view value) ≡ true → ArePlain deepest (items_view (values ++ value ∷ []))
plain_push deepest [] value plain nested dated = record { nested = omega arith; dated = rw dated }
plain_push deepest (v ∷ values) value plain nested dated =
    let dates = and_parts (has_valid_dates (view v)) (items_have_valid_dates (items_view values)) plain.dated in
    let rest = plain_push deepest values value (record { nested = omega (arith, plain.nested); dated = dates.1 }) nested dated in
    record { nested = omega (arith, plain.nested, rest.nested); dated = rw (dates.0, rest.dated) }
