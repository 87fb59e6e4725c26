-- The 50th power of a fixed-point number. Ours: which seven products make it, and that each is rounded.
use Rattle.std.specs.Prelude.{ℕ, ◌+◌, ◌≤◌, ◌^◌}
use Rattle.root_interval.specs.Product.{one, mul_down, mul_up}

-- nine eighths, the last number that is tried as a root
abbrev pub last : ℕ
last = one + 2 ^ 53

-- r lies from one to nine eighths
abbrev pub IsInRange : ℕ → Type 0
IsInRange r = (one ≤ r) × (r ≤ last)

-- the 50th power of r by seven products
unfoldable pub pow50 : (ℕ → ℕ → ℕ) → ℕ → ℕ
pow50 product r = product r48 r2
  where
    r2 : ℕ
    r2 = product r r

    r4 : ℕ
    r4 = product r2 r2

    r8 : ℕ
    r8 = product r4 r4

    r16 : ℕ
    r16 = product r8 r8

    r32 : ℕ
    r32 = product r16 r16

    r48 : ℕ
    r48 = product r32 r16

-- the 50th power of r, every product rounded down
abbrev pub pow50_down : ℕ → ℕ
pow50_down r = pow50 mul_down r

-- the 50th power of r, every product rounded up
abbrev pub pow50_up : ℕ → ℕ
pow50_up r = pow50 mul_up r
