-- The outside at one moment (ours): what a folder and a sink tell, and how often reading, writing and printing failed.
use Rattle.std.specs.Prelude.{◌≡◌, ◌≤◌, ℕ, List, Option, None}
use Rattle.coord_io.specs.Faults.{Rose}
use Rattle.coord_io.specs.Files.{Files, held}
use Rattle.coord_io.specs.Goes.{Goes, Stays}

-- a folder at one moment: its files, if it tells them, and how often reading and writing failed so far
pub record FolderState : Type 0 where
  pub files : Option Files
  pub reads : ℕ
  pub writes : ℕ

-- a sink at one moment: the bytes that it was given, if it tells them, and how often writing failed so far
pub record SinkState : Type 0 where
  pub written : Option (List ℕ)
  pub faults : ℕ

-- if the folder tells its files before and afterwards, the fact holds of those before
abbrev pub Told : FolderState → FolderState → (Files → Type 0) → Type 0
Told before after P = Goes before.files after.files (λ m _. P m)

-- A read finds no file of the name. If the folder tells its files, none has the name and the count of reads stays; if
-- it doesn't, the count rose.
pub record IsMissing (name : List ℕ) (before after : FolderState) : Type 0 where
  pub absent : Told before after (λ m. (held m name ≡ None) × (after.reads ≡ before.reads))
  pub untold : after.files ≡ None → Rose before.reads after.reads

-- if the folder tells its files before and afterwards, this step leads from the one to the other
abbrev pub Changes : FolderState → FolderState → (Files → Files → Type 0) → Type 0
Changes before after step = Goes before.files after.files step

-- if the sink tells its bytes before and afterwards, this step leads from the one to the other
abbrev pub Takes : SinkState → SinkState → (List ℕ → List ℕ → Type 0) → Type 0
Takes before after step = Goes before.written after.written step

-- the folder was read alone: all files are as before, and no write was counted
pub record IsReadAlone (before after : FolderState) : Type 0 where
  pub stay : Changes before after Stays
  pub reads : before.reads ≤ after.reads
  pub writes : after.writes ≡ before.writes
