-- How numbers are spelled (ours): decimal digits without leading zeros, and fixed-point numbers with all their places.
use Rattle.std.specs.Prelude.{ℕ, zero, suc, ◌+◌, ◌/◌, ◌%◌, ◌^◌, List, [], ◌∷◌, ◌++◌}
use Rattle.std.specs.Fmt.{decimal}

-- the last digits of a number, as many as asked for
abbrev pub low_digits : ℕ → ℕ → List ℕ
low_digits zero n = []
low_digits (suc places) n = low_digits places (n / 10) ++ (48 + n % 10) ∷ []

-- the number with a point before its last `places` digits
abbrev pub fixed : ℕ → ℕ → List ℕ
fixed places n = decimal (n / 10 ^ places) ++ 46 ∷ low_digits places n
