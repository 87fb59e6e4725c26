-- The least parts of the relays of a box for the cost alone: lambda 1 and no weights (ours). The
-- plain bound is their sum.
use Rattle.std.specs.Prelude.{◌≡◌, ℕ, ◌<◌, ◌≤◌, ◌^◌, ℤ, pos, ◌+ℤ◌, ◌≤ℤ◌, List, [], length, slice_get, All, IsSomeAnd}
use Rattle.margin_rows.specs.Box.{Box}
use Rattle.margin_rows.specs.Case.{Case}
use Rattle.box_bound.specs.RelayParts.{IsLeastPart, dials_of, pickups_of}

-- the numbers are the least parts of the relays in the box, one for each relay
pub record StandFor (case : Case) (box : Box) (parts : List ℤ) : Type 0 where
  pub count : length parts ≡ length case.study.relays
  pub each : (i : ℕ) → i < length case.study.relays
      → IsSomeAnd (slice_get parts i) (IsLeastPart case 1 [] i (pickups_of box i) (dials_of box i))

-- the number lies between -2^106 and 2^106
pub record IsSmall (z : ℤ) : Type 0 where
  pub not_low : pos 0 ≤ℤ (z +ℤ pos (2 ^ 106))
  pub not_high : z ≤ℤ pos (2 ^ 106)

-- there are at most as many numbers as relays can be, each so small that their sum fits 128 bits
pub record AreSmall (parts : List ℤ) : Type 0 where
  pub few : length parts ≤ 96
  pub small : All IsSmall parts

-- relay i has the same spans in both boxes
pub record HasSameSpans (box other : Box) (i : ℕ) : Type 0 where
  pub pickups : pickups_of box i ≡ pickups_of other i
  pub dials : dials_of box i ≡ dials_of other i
