-- The names of files, and what `solve` is asked (ours).
use Rattle.std.specs.Prelude.{◌≡◌, ℕ, true, List, [], ◌∷◌, Option, IfSome}
use Rattle.coord_words.specs.Line.{all_differ}
use Rattle.coord_words.specs.OptionNumbers.{IsBudget, IsGap}

-- the network, the currents table, the sheet and the certificate that a command names
pub record FileNames : Type 0 where
  pub network : List ℕ
  pub currents : List ℕ
  pub sheet : List ℕ
  pub cert : List ℕ

-- what `solve` is asked: its four names, the gap if one is given, and the budget
pub record SolveWords : Type 0 where
  pub names : FileNames
  pub gap : Option ℕ
  pub budget : ℕ

-- the names in order
abbrev pub listed : FileNames → List (List ℕ)
listed names = names.network ∷ names.currents ∷ names.sheet ∷ names.cert ∷ []

-- what `solve` may be asked: names of which no two are equal, and numbers within their limits
pub record IsAsked (words : SolveWords) : Type 0 where
  pub names : all_differ (listed words.names) ≡ true
  pub gap : IfSome words.gap IsGap
  pub budget : IsBudget words.budget
