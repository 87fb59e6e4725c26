-- What sheets and certificates claim (ours): the ending, the cost and the bound, and how they are spelled.
use Rattle.std.specs.Prelude.{ℕ, ◌^◌, ◌<◌, Option, Some, None, List, ◌++◌, codes, IfSome, IsSome, IsNone}
use Rattle.std.specs.Fmt.{decimal}
use Rattle.std.specs.List.{flat_map}
use Rattle.coord_model.specs.declared.choice.Ending.{Ending}
use Rattle.coord_model.specs.declared.choice.Ending.TheVariants.{Closed, NoSettings, BudgetSpent, Hairline}

-- a line with its line feed, and lines, each with its own
abbrev pub ended : List ℕ → List ℕ
ended line = line ++ codes "\n"

abbrev pub text_of : List (List ℕ) → List ℕ
text_of lines = flat_map ended lines

-- the ending in a word
abbrev pub ending_word : Ending → List ℕ
ending_word Closed = codes "closed"
ending_word NoSettings = codes "no-settings"
ending_word BudgetSpent = codes "budget-spent"
ending_word Hairline = codes "hairline"

-- a number in digits, or `none`
abbrev pub amount : Option ℕ → List ℕ
amount None = codes "none"
amount (Some n) = decimal n

-- the number has at most 16 digits, where it is one
abbrev pub IsShort : Option ℕ → Type 0
IsShort n = IfSome n (λ n. n < 10 ^ 16)

-- the cost goes with the ending
abbrev pub CostGoesWith : Ending → Option ℕ → Type 0
CostGoesWith Closed cost = IsSome cost
CostGoesWith NoSettings cost = IsNone cost
CostGoesWith BudgetSpent cost = Unit {0}
CostGoesWith Hairline cost = Unit {0}

-- the bound goes with the ending
abbrev pub BoundGoesWith : Ending → Option ℕ → Type 0
BoundGoesWith Closed bound = IsSome bound
BoundGoesWith NoSettings bound = IsNone bound
BoundGoesWith BudgetSpent bound = IsSome bound
BoundGoesWith Hairline bound = IsSome bound
