-- What a command takes after its word, and what it reads there (ours).
use Rattle.std.specs.Prelude.{◌≡◌, ◌≤◌, ◌+◌, ◌==◌, ℕ, Bool, true, not, ◌&&◌, ◌||◌, Option, Some, None, IfSome, is_some}
use Rattle.std.specs.Prelude.{List, [], ◌∷◌, length, take, slice_index_or, unwrap_or, if◌then◌else◌}
use Rattle.std.specs.List.{list_any}
use Rattle.std.specs.Str.{bytes_eq}
use Rattle.coord_words.specs.Kept.{Kept}
use Rattle.coord_words.specs.OptionNumbers.{IsBudget, IsGap, default_budget, most_budget, most_gap, number_within, option_number}
use Rattle.coord_words.specs.declared.line.Line.{Line}

-- What a command reads: its names, with the word of the number after them, that number, the gap if
-- one is given, and the budget.
pub record Said : Type 0 where
  pub names : List (List ℕ)
  pub number : ℕ
  pub gap : Option ℕ
  pub budget : ℕ

-- the name at a place
abbrev pub name_at : List (List ℕ) → ℕ → List ℕ
name_at names place = slice_index_or names place []

-- how many names a command takes, its number counted
abbrev pub count : Line → ℕ
count line = line.names + (if is_some line.number then 1 else 0)

-- no two of the names are equal
abbrev pub all_differ : List (List ℕ) → Bool
all_differ [] = true
all_differ (name ∷ names) = not (list_any (λ other. bytes_eq other name) names) && all_differ names

-- the names are as many as the command takes, and differ where they have to
abbrev pub are_names_for : Line → List (List ℕ) → Bool
are_names_for line names =
    length names == count line && (not line.differ || all_differ (take line.names names))

-- the number after the names: 0 if the command takes none
abbrev pub number_for : Option (ℕ × ℕ) → List ℕ → Option ℕ
number_for None word = Some 0
number_for (Some limits) word = number_within limits.0 limits.1 word

-- the names with the numbers, if each is right
abbrev pub said_with : List (List ℕ) → Option ℕ → Option (Option ℕ) → Option (Option ℕ)
    → Option Said
said_with names (Some number) (Some gap) (Some budget) = Some (record {
  names = names;
  number = number;
  gap = gap;
  budget = unwrap_or budget default_budget;
})
said_with names number gap budget = None

-- what the command reads, if the words after it fit it
abbrev pub said_by : Line → Kept → Option Said
said_by line kept =
    if are_names_for line kept.names
    then said_with kept.names (number_for line.number (name_at kept.names line.names))
    (option_number line.gap most_gap kept.gaps)
    (option_number line.budget most_budget kept.budgets)
    else None

-- what a command reads is as its line says
pub record Fits (line : Line) (said : Said) : Type 0 where
  pub names : are_names_for line said.names ≡ true
  pub number : IfSome line.number (λ limits. (limits.0 ≤ said.number) × (said.number ≤ limits.1))
  pub gap : IfSome said.gap IsGap
  pub budget : IsBudget said.budget
