-- What is printed on the sink, and the status that goes with it (ours).
use Rattle.std.specs.Prelude.{◌≡◌, ◌⊎◌, ℕ, List}
use Rattle.coord_io.specs.Faults.{Rose}
use Rattle.coord_io.specs.Outside.{SinkState, Takes}
use Rattle.coord_io.specs.Written.{Gained, GainedPart}

-- The sink gained exactly the text and the status is the one given, or printing failed, the sink gained a front of
-- the text and the status is 11.
abbrev pub Prints : List ℕ → ℕ → SinkState → SinkState → ℕ → Type 0
Prints text own before after status =
    ((status ≡ own) × Takes before after (Gained text))
    ⊎ ((status ≡ 11) × Rose before.faults after.faults × Takes before after (GainedPart text))

-- the text is printed so, or memory ran out before: nothing is printed and the status is 30
abbrev pub PrintsUnlessMemory : List ℕ → ℕ → SinkState → SinkState → ℕ → Type 0
PrintsUnlessMemory text own before after status = Prints text own before after status ⊎ ((status ≡ 30) × (after ≡ before))
