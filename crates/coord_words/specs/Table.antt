-- The table of commands, and the command that words are (ours).
use Rattle.std.specs.Prelude.{ℕ, true, false, Option, Some, None, option_and_then, option_map}
use Rattle.std.specs.Prelude.{List, [], ◌∷◌, codes, find}
use Rattle.std.specs.Str.{bytes_eq}
use Rattle.coord_words.specs.Kept.{kept_of}
use Rattle.coord_words.specs.Line.{Said, name_at, said_by}
use Rattle.coord_words.specs.SolveWords.{FileNames}
use Rattle.coord_words.specs.Words.{Command, check, drill, margins, pairs, solve, three_files}
use Rattle.coord_words.specs.declared.line.Line.{Line}

-- a command's word, what it takes after it, and the command that it then is
pub record Entry : Type 0 where
  pub word : List ℕ
  pub line : Line
  pub command : Said → Command

-- names alone, of which two may be equal
abbrev pub names : ℕ → Line
names n = record { names = n; differ = false; number = None; gap = false; budget = false }

-- four names that differ, and both options
abbrev pub solve_line : Line
solve_line = record (names 4) { differ = true; gap = true; budget = true }

-- a number of buses
abbrev pub drill_line : Line
drill_line = record (names 0) { number = Some (3, 48) }

-- `solve` and `pairs` of what they read
abbrev pub solve_said : Said → Command
solve_said said = solve (record {
  names = record {
    network = name_at said.names 0;
    currents = name_at said.names 1;
    sheet = name_at said.names 2;
    cert = name_at said.names 3;
  };
  gap = said.gap;
  budget = said.budget;
})

abbrev pub pairs_said : Said → Command
pairs_said said = pairs (name_at said.names 0)

-- the names of a command that names three files
abbrev pub three_said : Said → FileNames
three_said said = three_files (name_at said.names 0) (name_at said.names 1) (name_at said.names 2)

-- the commands that are built
abbrev pub commands : List Entry
commands =
    record { word = codes "solve"; line = solve_line; command = solve_said }
    ∷ record { word = codes "check"; line = names 3; command = λ said. check (three_said said) }
    ∷ record { word = codes "pairs"; line = names 1; command = pairs_said }
    ∷ record { word = codes "margins"; line = names 3; command = λ said. margins (three_said said) }
    ∷ record { word = codes "drill"; line = drill_line; command = λ said. drill said.number }
    ∷ []

-- the command of an entry with the words after its own, if they fit it
abbrev pub command_by : List (List ℕ) → Entry → Option Command
command_by words entry =
    option_map entry.command (option_and_then (said_by entry.line) (kept_of words))

-- the command that the words are, if they are one
abbrev pub command_of : List (List ℕ) → Option Command
command_of [] = None
command_of (word ∷ words) =
    option_and_then (command_by words) (find (λ entry. bytes_eq word entry.word) commands)
