-- Where a number in digits ends in a text (ours).
use Rattle.std.specs.Prelude.{◌≡◌, ℕ, ⊤, false, List, [], ◌∷◌}
use Rattle.std.specs.Char.{is_ascii_digit}

-- the text is empty, or begins with no digit
abbrev pub StopsDigits : List ℕ → Type 0
StopsDigits [] = ⊤
StopsDigits (b ∷ bs) = is_ascii_digit b ≡ false
