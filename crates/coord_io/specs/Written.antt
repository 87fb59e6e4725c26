-- What a sink was given (ours).
use Rattle.std.specs.Prelude.{◌≡◌, ℕ, List, ◌++◌, take}

-- the sink gained exactly these bytes
abbrev pub Gained : List ℕ → List ℕ → List ℕ → Type 0
Gained added m n = n ≡ m ++ added

-- the sink gained a front of these bytes
abbrev pub GainedPart : List ℕ → List ℕ → List ℕ → Type 0
GainedPart bytes m n = (count : ℕ) × Gained (take count bytes) m n
