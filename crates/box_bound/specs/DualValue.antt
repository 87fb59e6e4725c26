-- The dual value of a box (ours), in picoseconds times lambda: the constants of rows as often as
-- their weights say, and the least part of each relay.
use Rattle.std.specs.Prelude.{◌≡◌, ℕ, ◌<◌, ℤ, pos, ◌+ℤ◌, ◌*ℤ◌, List, [], ◌∷◌, length, map, slice_get, IsSomeAnd}
use Rattle.coord_model.specs.declared.weights.Weight.{Weight}
use Rattle.margin_rows.specs.Box.{Box}
use Rattle.margin_rows.specs.Case.{Case, row_at}
use Rattle.margin_rows.specs.Demands.{row_constant}
use Rattle.box_bound.specs.RelayParts.{IsLeastPart, dials_of, pickups_of}

-- the sum of whole numbers
abbrev pub total : List ℤ → ℤ
total [] = pos 0
total (z ∷ zs) = z +ℤ total zs

-- the constant of a row as often as its weight says
abbrev pub weighted_constant : Case → Weight → ℤ
weighted_constant case w = pos w.weight *ℤ row_constant case.study (row_at case w.row)

-- the dual value: the weighted constants, and the least part of each relay
pub record IsDualValue (case : Case) (box : Box) (lambda : ℕ) (weights : List Weight)
    (value : ℤ) : Type 0 where
  pub leasts : List ℤ
  pub count : length leasts ≡ length case.study.relays
  pub each : (i : ℕ) → i < length case.study.relays
      → IsSomeAnd (slice_get leasts i)
      (IsLeastPart case lambda weights i (pickups_of box i) (dials_of box i))
  pub adds_up : value ≡ total (map (weighted_constant case) weights) +ℤ total leasts
