-- A line whose end has not come (ours).
use Rattle.std.specs.Prelude.{◌≡◌, ℕ, Bool, true, false, List}
use Rattle.coord_text.specs.Lines.{IsLine}
use Rattle.cert_check.specs.BadLines.{HasNoFeed}

-- its bytes, and whether they begin no line
pub record OpenLine : Type 0 where
  pub text : List ℕ
  pub bad : Bool

-- the room has what stands after the last line feed, unless that begins no line
pub record IsLeft (room : OpenLine) (left : List ℕ) : Type 0 where
  pub no_feed : HasNoFeed left
  pub good : room.bad ≡ false → (left ≡ room.text) × IsLine left
  pub bad : room.bad ≡ true → ¬ IsLine left
