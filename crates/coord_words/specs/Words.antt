-- The commands, with what each is asked (ours).
use Rattle.std.specs.Prelude.{ℕ, List}
use Rattle.coord_words.specs.OptionNumbers.{IsRing}
use Rattle.coord_words.specs.SolveWords.{FileNames, IsAsked, SolveWords}

-- a command with what it is asked
pub data Command : Type 0 where
  solve : SolveWords → Command
  pairs : List ℕ → Command
  margins : FileNames → Command
  check : FileNames → Command
  drill : ℕ → Command

-- what a command may ask: names and numbers that `solve` allows, buses that `drill` allows, and any
-- names else
abbrev pub MayAsk : Command → Type 0
MayAsk (solve words) = IsAsked words
MayAsk (drill n) = IsRing n
MayAsk other = Unit {0}

-- the names of a command that names the network alone: it asks for no other file
abbrev pub only : List ℕ → FileNames
only network = record { network = network; currents = network; sheet = network; cert = network }

-- the names of a command that names three files: it asks for the third alone of a sheet and a
-- certificate
abbrev pub three_files : List ℕ → List ℕ → List ℕ → FileNames
three_files network currents third =
    record { network = network; currents = currents; sheet = third; cert = third }
