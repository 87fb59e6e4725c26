-- Counts of faults of the outside (ours). A count is a u64: it never falls, and stands still at its last value.
use Rattle.std.specs.Prelude.{ℕ, ◌+◌, ◌-◌, ◌^◌, ◌≤◌, min}

-- the count rose; one that stands at the last value afterwards counts as one that rose
abbrev pub Rose : ℕ → ℕ → Type 0
Rose before now = min (before + 1) (2 ^ 64 - 1) ≤ now

-- the counts of a folder that tells nothing else
pub record FolderFaults : Type 0 where
  pub reads : ℕ
  pub writes : ℕ
