-- A folder and a sink that never fail (ours), as their callers see them. Each tells what it holds as long as its files or
-- bytes are within their room, and nothing from then on.
use Rattle.std.specs.Prelude.{◌≢◌, ℕ, ◌<◌, ◌≤◌, nat_le, if◌then◌else◌, List, [], ◌∷◌, ◌++◌, length, map, All, slice_index_or, Option, Some, None, refl}
use Rattle.std.specs.Option.{option_and_then}
use Rattle.std.specs.Str.{bytes_eq}
use Rattle.std.specs.FinMap.{code, from_entries}
use Rattle.std.specs.Coded.{Coded, code_by, coded×, coded_list, coded_option, coded_ℕ}
use Rattle.std.specs.Vec.{vec_capacity}
use Rattle.coord_io.specs.Files.{Files, held, with_file}
use Rattle.coord_io.specs.declared.quiet_file.QuietFile.{QuietFile}

-- the rooms of files by their names: the most bytes that each can come to
abbrev pub Rooms : Type 0
Rooms = List (List ℕ × ℕ)

-- what a quiet folder holds, if it still tells, and the rooms of its files
pub record QuietFolderData : Type 0 where
  pub files : Option Files
  pub rooms : Rooms

-- such a state is stored as its two parts
abbrev pub quiet_code : Coded QuietFolderData
quiet_code =
    code_by (Option Files × Rooms)
    (coded× (coded_option (code (coded_list coded_ℕ) (coded_list coded_ℕ))) (coded_list (coded× (coded_list coded_ℕ) coded_ℕ)))
    (λ s. (s.files, s.rooms))
    (λ p. record { files = p.0; rooms = p.1 })
    (λ _. refl)

-- what a quiet sink was given, if it still tells, and its room
pub record QuietSinkData : Type 0 where
  pub written : Option (List ℕ)
  pub room : ℕ

-- the files of a list by their names; of two of one name the first counts
abbrev pub quiet_files : List QuietFile → Files
quiet_files files = from_entries (map (λ file. (file.name, file.bytes.items)) files)

-- the rooms of the files of a list
abbrev pub rooms_of : List QuietFile → Rooms
rooms_of files = map (λ file. (file.name, file.room)) files

-- no two files of the list have one name
abbrev pub AreDistinct : List QuietFile → Type 0
AreDistinct files =
    (i j : ℕ) (d : QuietFile) → i < j → j < length files → (slice_index_or files i d).name ≢ (slice_index_or files j d).name

-- the file is within its room
abbrev pub IsWithin : QuietFile → Type 0
IsWithin file = length file.bytes.items ≤ file.room

-- no two files of the list have one name, and each is within its room
pub record AreQuiet (files : List QuietFile) : Type 0 where
  pub distinct : AreDistinct files
  pub within : All IsWithin files

-- the memory for the whole room of the file is there
abbrev pub IsReserved : QuietFile → Type 0
IsReserved file = file.room ≤ vec_capacity file.bytes

-- the room of the first file of this name
abbrev pub room_of : Rooms → List ℕ → ℕ
room_of [] name = 0
room_of (entry ∷ rooms) name = if bytes_eq name entry.0 then entry.1 else room_of rooms name

-- the bytes, as long as they are within the room
abbrev pub within : ℕ → List ℕ → Option (List ℕ)
within room bytes = if nat_le (length bytes) room then Some bytes else None

-- the files after the one of this name was emptied, if there is one
abbrev pub emptied : List ℕ → Files → Option Files
emptied name m = option_and_then (λ _. Some (with_file m name [])) (held m name)

-- the files after the one of this name gained the piece, if there is one and it stays within its room
abbrev pub grown : Rooms → List ℕ → List ℕ → Files → Option Files
grown rooms name piece m =
    option_and_then (λ had. option_and_then (λ bytes. Some (with_file m name bytes)) (within (room_of rooms name) (had ++ piece))) (held m name)
