-- Counts of faults over several calls.
use Rattle.std.proofs.Common.{ℕ, ◌≤◌, arith}
use Rattle.coord_io.specs.Faults.{Rose}

-- what rose in the last call has risen since the first
pub rose_last : (before between now : ℕ) → before ≤ between → Rose between now → Rose before now
rose_last before between now earlier rose = omega arith
