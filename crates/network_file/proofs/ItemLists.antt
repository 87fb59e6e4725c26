use Rattle.std.proofs.Common.{◌≡◌, List, [], ◌∷◌, map, refl, ap}
use Rattle.network_file.specs.Tables.{listed}
use Rattle.toml.specs.View.{view, items_view}
use Rattle.toml.specs.declared.value.Value.{Value}

-- the items of an array, as a list, are its elements
pub listed_view : (values : List Value) → listed (items_view values) ≡ map view values
listed_view [] = refl
listed_view (v ∷ vs) = ap (λ rest. view v ∷ rest) (listed_view vs)
