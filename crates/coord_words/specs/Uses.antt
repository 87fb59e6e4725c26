-- The uses that words make of a command (ours): names, and options with a word each, in order.
use Rattle.std.specs.Prelude.{ℕ, Bool, true, false, List, [], ◌∷◌, codes, if◌then◌else◌}

-- the options, of which a command may take some
pub data Flag : Type 0 where
  gap : Flag
  budget : Flag

-- a name, or an option with its word
pub data Use : Type 0 where
  name : List ℕ → Use
  option : Flag → List ℕ → Use

-- the names, in order
abbrev pub names_in : List Use → List (List ℕ)
names_in [] = []
names_in (name word ∷ uses) = word ∷ names_in uses
names_in (option flag word ∷ uses) = names_in uses

-- the options are the same
abbrev pub is_same : Flag → Flag → Bool
is_same gap gap = true
is_same budget budget = true
is_same flag other = false

-- the words of an option, one for each time that it is used
abbrev pub words_of : Flag → List Use → List (List ℕ)
words_of flag [] = []
words_of flag (name word ∷ uses) = words_of flag uses
words_of flag (option used word ∷ uses) =
    if is_same used flag then word ∷ words_of flag uses else words_of flag uses

-- the word of an option
abbrev pub text_of : Flag → List ℕ
text_of gap = codes "gap"
text_of budget = codes "budget"
