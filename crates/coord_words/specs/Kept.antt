-- What the words after a command say, each kind by itself, and what clap has kept of them.
use Rattle.std.specs.Prelude.{◌≡◌, Option, Some, None, Result, Ok, Err, List, ℕ, codes, option_map, [], unwrap_or}
use Rattle.clap.specs.Matches.{found_of, matched_of, raw_values}
use Rattle.clap.specs.declared.parser.matches.ArgMatches.{ArgMatches}
use Rattle.coord_words.specs.SaidUses.{uses_from}
use Rattle.coord_words.specs.Uses.{Use, budget, gap, names_in, text_of, words_of}
use Rattle.coord_words.specs.declared.command.WordsRefusal.{WordsRefusal}
use Rattle.coord_words.specs.declared.command.WordsRefusal.TheVariants.{NoMemory, Usage}

-- the names and the words of each option
pub record Kept : Type 0 where
  pub names : List (List ℕ)
  pub gaps : List (List ℕ)
  pub budgets : List (List ℕ)

-- those of some uses
abbrev pub kept_in : List Use → Kept
kept_in uses = record {
  names = names_in uses;
  gaps = words_of gap uses;
  budgets = words_of budget uses;
}

-- those that the words after a command say, if each has a meaning
abbrev pub kept_of : List (List ℕ) → Option Kept
kept_of words = option_map kept_in (uses_from words None)

-- the words that clap has kept of a name or an option
abbrev pub values_of : ArgMatches → List ℕ → List (List ℕ)
values_of matches id = unwrap_or (option_map raw_values (matched_of (found_of matches) id)) []

-- those that it has kept of each
abbrev pub kept_by : ArgMatches → Kept
kept_by matches = record {
  names = values_of matches (codes "name");
  gaps = values_of matches (text_of gap);
  budgets = values_of matches (text_of budget);
}

-- What was returned, seen by view, is what the words say, and `Usage` means that they say nothing.
-- Want of memory is free.
abbrev pub Reads : {X Y : Type 0} → (X → Y) → Option Y → Result X WordsRefusal → Type 0
Reads view said (Ok x) = said ≡ Some (view x)
Reads view said (Err Usage) = said ≡ None
Reads view said (Err NoMemory) = Unit {0}
