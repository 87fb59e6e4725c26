-- The numbers among the words (ours): those of the options, and those that follow names.
use Rattle.std.specs.Prelude.{ℕ, ◌≤◌, ◌&&◌, Bool, true, nat_le, Option, Some, None, option_map, List, [], ◌∷◌, if◌then◌else◌}
use Rattle.std.specs.Fmt.{decimal}
use Rattle.std.specs.Str.{bytes_eq}
use Rattle.std.specs.Str.Parse.{digits_value}

-- the number within these limits that the word spells, in digits without a sign or a leading zero
abbrev pub number_within : ℕ → ℕ → List ℕ → Option ℕ
number_within least most word =
    if bytes_eq (decimal n) word && nat_le least n && nat_le n most then Some n else None
  where
    n : ℕ
    n = digits_value 10 word

-- the greatest gap, and the greatest budget
abbrev pub most_gap : ℕ
most_gap = 1000000000000

abbrev pub most_budget : ℕ
most_budget = 200000

-- the budget if none is given
abbrev pub default_budget : ℕ
default_budget = 20000

-- The number of an option by its words, at most one and only if the command takes it: from 1 to the
-- limit. Without a word none is given.
abbrev pub option_number : Bool → ℕ → List (List ℕ) → Option (Option ℕ)
option_number takes most [] = Some None
option_number true most (word ∷ []) = option_map Some (number_within 1 most word)
option_number takes most words = None

-- the number is a gap that may be given
abbrev pub IsGap : ℕ → Type 0
IsGap n = (1 ≤ n) × (n ≤ most_gap)

-- the number is a budget that may be given
abbrev pub IsBudget : ℕ → Type 0
IsBudget n = (1 ≤ n) × (n ≤ most_budget)

-- the number is one of buses that a ring may have: 3 to 48
abbrev pub IsRing : ℕ → Type 0
IsRing n = (3 ≤ n) × (n ≤ 48)
