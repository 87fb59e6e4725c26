use Rattle.std.proofs.Common.{◌≢◌, ℕ, ◌<◌, get_or, length}
use Rattle.coord_io.specs.Memory.{name_of}
use Rattle.coord_io.specs.declared.mem_file.MemFile.{MemFile}
use Rattle.coord_io.proofs.mem_file.names_differ.Given as goal

abbrev pub invariant-loop-i : goal.invariant-loop-i
invariant-loop-i l = (i : ℕ) → i < l.i → (j : ℕ) (d : MemFile) → i < j → j < length l.files → name_of (get_or l.files i d) ≢ name_of (get_or l.files j d)
