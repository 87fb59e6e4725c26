-- The currents of a ring of n buses (ours), in primary amperes.
use Rattle.std.specs.Prelude.{ℕ, ◌+◌, ◌-◌, ◌*◌, ◌%◌, ◌==◌, if◌then◌else◌, List, [], ◌∷◌, ◌++◌}
use Rattle.std.specs.List.{flat_map}
use Rattle.coord_model.specs.declared.study.Current.{Current}
use Rattle.drill_ring.specs.Drill.{after, numbers}

-- the number before k: n comes before 1
abbrev pub before : ℕ → ℕ → ℕ
before n k = if k == 1 then n else k - 1

-- the number in the study of relay Fk, and of fault Xk
abbrev pub first : ℕ → ℕ
first k = 2 * (k - 1)

-- the number in the study of relay Gk, and of fault Yk
abbrev pub second : ℕ → ℕ
second k = 2 * (k - 1) + 1

-- how the currents differ from line to line
abbrev pub variation : ℕ → ℕ
variation k = 7 * k % 11

-- the current of a relay at a fault
abbrev pub current_of : ℕ → ℕ → ℕ → Current
current_of fault relay amps = record { fault = fault; relay = relay; amps = amps }

-- the currents at a fault: the relay near it and the one that backs it, the relay at the far end and the one that backs it
abbrev pub currents_at : ℕ → ℕ → ℕ → ℕ → ℕ → ℕ → List Current
currents_at fault near near_backup far far_backup v =
    current_of fault near (4000 + 50 * v) ∷ current_of fault near_backup (1600 + 25 * v)
    ∷ current_of fault far (2200 + 50 * v) ∷ current_of fault far_backup (1200 + 25 * v) ∷ []

-- at Xk: Fk, backed by the F before it, and Gk, backed by the G after it
abbrev pub at_x : ℕ → ℕ → List Current
at_x n k = currents_at (first k) (first k) (first (before n k)) (second k) (second (after n k)) (variation k)

-- at Yk: Gk, backed by the G after it, and Fk, backed by the F before it
abbrev pub at_y : ℕ → ℕ → List Current
at_y n k = currents_at (second k) (second k) (second (after n k)) (first k) (first (before n k)) (variation k)

-- the currents at the faults of line Lk
abbrev pub currents_of : ℕ → ℕ → List Current
currents_of n k = at_x n k ++ at_y n k

-- the currents of the ring
abbrev pub drill_currents : ℕ → List Current
drill_currents n = flat_map (currents_of n) (numbers n)
