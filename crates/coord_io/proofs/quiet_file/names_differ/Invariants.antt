use Rattle.std.proofs.Common.{◌≢◌, ℕ, ◌<◌, get_or, length}
use Rattle.coord_io.specs.declared.quiet_file.QuietFile.{QuietFile}
use Rattle.coord_io.proofs.quiet_file.names_differ.Given as goal

abbrev pub invariant-loop-i : goal.invariant-loop-i
invariant-loop-i l = (i : ℕ) → i < l.i → (j : ℕ) (d : QuietFile) → i < j → j < length l.files → (get_or l.files i d).name ≢ (get_or l.files j d).name
