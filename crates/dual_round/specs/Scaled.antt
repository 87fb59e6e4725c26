-- How a fixed-point number becomes a weight (ours): to the nearest whole number, kept within 32 bits.
use Rattle.std.specs.Prelude.{ℕ, ◌-◌, ◌^◌, min, ℤ, pos, negsuc, ◌+ℤ◌, List, map, filter, nat_lt}
use Rattle.std.specs.Int.{int_shr}
use Rattle.coord_model.specs.declared.weights.Weight.{Weight}

-- v / 2^places, to the nearest whole number; a half goes up
abbrev pub nearest : ℕ → ℤ → ℤ
nearest places v = int_shr (v +ℤ pos (2 ^ (places - 1))) places

-- 0 for a negative number, and the greatest number of 32 bits for one that is larger
abbrev pub within_32_bits : ℤ → ℕ
within_32_bits (pos n) = min n (2 ^ 32 - 1)
within_32_bits (negsuc n) = 0

-- the weight of a number with `places` binary places
abbrev pub rounded_weight : ℕ → ℤ → ℕ
rounded_weight places v = within_32_bits (nearest places v)

-- the weight of a row, given by its number and its value
abbrev pub row_weight : ℕ → ℕ × ℤ → Weight
row_weight places r = record { row = r.0; weight = rounded_weight places r.1 }

-- the weights of the rows in their order, without those that are 0
abbrev pub weighed : ℕ → List (ℕ × ℤ) → List Weight
weighed places rows = filter (λ w. nat_lt 0 w.weight) (map (row_weight places) rows)
