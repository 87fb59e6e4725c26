-- What the words are read as, as plain data.
use Rattle.std.specs.Prelude.{Option, List, ℕ, map, string_bytes, unwrap_or, option_map, []}
use Rattle.std.specs.Borrow.{Bor}
use Rattle.coord_words.specs.Line.{Said}
use Rattle.coord_words.specs.Words.{Command, check, drill, margins, pairs, solve, three_files}
use Rattle.coord_words.specs.declared.command.Command.{Command as Read}
use Rattle.coord_words.specs.declared.command.Command.TheVariants.{Check, Drill, Margins, Pairs, Solve}
use Rattle.coord_words.specs.declared.line.Said.{Said as Texts}

-- the bytes of some words
abbrev pub texts : List (Bor (List ℕ)) → List (List ℕ)
texts = map (λ word. word.now)

-- the bytes of the words that clap has kept, of which there may be none
abbrev pub texts_kept : Option (Bor (List (Bor (List ℕ)))) → List (List ℕ)
texts_kept words = unwrap_or (option_map (λ s. texts s.now) words) []

-- what a command reads, with the bytes of its names
abbrev pub said_data : Texts → Said
said_data said = record {
  names = texts said.names.items;
  number = said.number;
  gap = said.gap;
  budget = said.budget;
}

-- the command with the bytes of its names
abbrev pub command_data : Read → Command
command_data (Solve network currents sheet cert gap budget) = solve (record {
  names = record {
    network = string_bytes network;
    currents = string_bytes currents;
    sheet = string_bytes sheet;
    cert = string_bytes cert;
  };
  gap = gap;
  budget = budget;
})
command_data (Pairs network) = pairs (string_bytes network)
command_data (Margins network currents sheet) =
    margins (three_files (string_bytes network) (string_bytes currents) (string_bytes sheet))
command_data (Check network currents cert) =
    check (three_files (string_bytes network) (string_bytes currents) (string_bytes cert))
command_data (Drill n) = drill n
