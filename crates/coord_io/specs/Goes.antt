-- What a call does to a thing that may be told or not (ours): the files of a folder, the bytes of a sink.
use Rattle.std.specs.Prelude.{◌≡◌, Option, Some}

-- Untold stays untold, and where it is told before and afterwards, the step leads from the one to the other.
pub record Goes {T : Type 0} (told later : Option T) (step : T → T → Type 0) : Type 0 where
  pub came : (n : T) → later ≡ Some n → (m : T) × (told ≡ Some m) × step m n

-- the step at which nothing changes
abbrev pub Stays : {T : Type 0} → T → T → Type 0
Stays m n = n ≡ m
