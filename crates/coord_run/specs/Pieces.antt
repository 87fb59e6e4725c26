-- Bytes that go to a file in pieces (ours).
use Rattle.std.specs.Prelude.{◌≡◌, ℕ, List, ◌++◌}
use Rattle.coord_io.specs.Files.{Gains}
use Rattle.coord_io.specs.Outside.{Changes, FolderState}

-- the file of this name gained a front of the bytes at its end, and this is the rest of them
pub record LeavesRest (name bytes rest : List ℕ) (before after : FolderState) : Type 0 where
  pub gone : List ℕ
  pub all : gone ++ rest ≡ bytes
  pub given : Changes before after (Gains name gone)
