-- A file of a quiet folder at its place, and what changes with it.
use Rattle.std.proofs.Common.{◌≡◌, ℕ, suc, ◌+◌, ◌<◌, Bool, true, false, cond, not, if◌then◌else◌, List, [], ◌∷◌, ◌++◌, length, get_or, set, position, All, Option, Some, None, refl, sym, ap, ◌∙◌, arith}
use Rattle.std.specs.FinMap.{from_entries}
use Rattle.std.specs.List.{AllWithin, position_or_len}
use Rattle.std.specs.Option.{option_and_then}
use Rattle.std.proofs.Math.Seq.{map-set_same}
use Rattle.std.proofs.lemmas.List.Elements.{All-set, AllWithin-more_set}
use Rattle.coord_io.specs.Files.{Files, with_file}
use Rattle.coord_io.specs.Quiet.{IsReserved, IsWithin, emptied, grown, quiet_files, room_of, rooms_of, within}
use Rattle.coord_io.specs.declared.quiet_file.QuietFile.{QuietFile}
use Rattle.coord_io.proofs.Places.{Changed, becomes_empty, files_by-set, held-no_place, is_named, new_name, old_held, one_more, placed}

-- the name and the bytes of a quiet file
abbrev pub own_name : QuietFile → List ℕ
own_name file = file.name

abbrev pub own_bytes : QuietFile → List ℕ
own_bytes file = file.bytes.items

-- the place that was found in a list, by the list and the name that were handed over
pub found_alike : (name asked : List ℕ) (files searched : List QuietFile) (p : Option ℕ) → asked ≡ name → searched ≡ files → p ≡ position (is_named own_name own_bytes asked) searched → position (is_named own_name own_bytes name) files ≡ p
found_alike name asked files searched p named listed is =
    sym (is ∙ ap (λ (q : List ℕ). position (is_named own_name own_bytes q) searched) named ∙ ap (position (is_named own_name own_bytes name)) listed)

room_some : (name : List ℕ) (files : List QuietFile) (d : QuietFile) → position_or_len (is_named own_name own_bytes name) files < length files → room_of (rooms_of files) name ≡ (get_or files (position_or_len (is_named own_name own_bytes name) files) d).room
room_some name [] d near = absurd (omega arith)
room_some name (file ∷ files) d near =
    elim (is_named own_name own_bytes name file) as (λ b. cond (not b) (1 + position_or_len (is_named own_name own_bytes name) files) 0 < suc (length files)
    → (if b then file.room else room_of (rooms_of files) name) ≡ (get_or (file ∷ files) (cond (not b) (1 + position_or_len (is_named own_name own_bytes name) files) 0) d).room) [
      | true ↦ λ within. refl
      | false ↦ λ within. room_some name files d (omega arith)
          ∙ ap (λ (k : ℕ). (get_or (file ∷ files) k d).room) (sym (one_more (position_or_len (is_named own_name own_bytes name) files)))
    ] near

-- the room of the name is that of the file at its place
pub room_at : (name : List ℕ) (files : List QuietFile) (at : ℕ) (d : QuietFile) → position (is_named own_name own_bytes name) files ≡ Some at → room_of (rooms_of files) name ≡ (get_or files at d).room
room_at name files at d found =
    let first = placed own_name own_bytes name files at found in
    room_some name files d first.1 ∙ ap (λ (k : ℕ). (get_or files k d).room) first.0

-- the rooms stay where a file keeps its name and its room
pub rooms_stay : (files : List QuietFile) (at : ℕ) (old new : QuietFile) → old ≡ get_or files at old → new.name ≡ old.name → new.room ≡ old.room → rooms_of (set files at new) ≡ rooms_of files
rooms_stay files at old new is named roomed =
    map-set_same (λ (file : QuietFile). (file.name, file.room)) files at new old
    (ap (λ (name : List ℕ). (name, new.room)) named ∙ ap (λ (room : ℕ). (old.name, room)) roomed ∙ ap (λ (file : QuietFile). (file.name, file.room)) is)

-- the files stay where a file keeps its name and its bytes
pub files_stay : (files : List QuietFile) (at : ℕ) (old new : QuietFile) → old ≡ get_or files at old → new.name ≡ old.name → own_bytes new ≡ own_bytes old → quiet_files (set files at new) ≡ quiet_files files
files_stay files at old new is named kept =
    ap from_entries (map-set_same (λ (file : QuietFile). (file.name, file.bytes.items)) files at new old
    (ap (λ (name : List ℕ). (name, own_bytes new)) named ∙ ap (λ (bytes : List ℕ). (old.name, bytes)) kept ∙ ap (λ (file : QuietFile). (file.name, file.bytes.items)) is))

-- no file is emptied where none has the name
pub emptied_nowhere : (name : List ℕ) (files : List QuietFile) → position (is_named own_name own_bytes name) files ≡ None → None ≡ emptied name (quiet_files files)
emptied_nowhere name files none =
    sym (ap (option_and_then (λ _. Some (with_file (quiet_files files) name []))) (held-no_place own_name own_bytes name files none))

-- the file there is emptied
pub emptied_there : (name : List ℕ) (files : List QuietFile) (at : ℕ) (old new : QuietFile) → Changed own_name own_bytes name files at old new → own_bytes new ≡ [] → Some (quiet_files (set files at new)) ≡ emptied name (quiet_files files)
emptied_there name files at old new change none =
    ap (λ (m : Files). Some m) (becomes_empty own_name own_bytes name files at old new change none)
    ∙ sym (ap (option_and_then (λ _. Some (with_file (quiet_files files) name []))) (old_held own_name own_bytes name files at old new change))

-- no file grows where none has the name
pub grown_nowhere : (name piece : List ℕ) (files : List QuietFile) → position (is_named own_name own_bytes name) files ≡ None → None ≡ grown (rooms_of files) name piece (quiet_files files)
grown_nowhere name piece files none =
    sym (ap (option_and_then (λ had. option_and_then (λ bytes. Some (with_file (quiet_files files) name bytes)) (within (room_of (rooms_of files) name) (had ++ piece))))
    (held-no_place own_name own_bytes name files none))

-- the file there gains a piece, if it stays within its room
pub grown_there : (name piece : List ℕ) (files : List QuietFile) (at : ℕ) (old new : QuietFile) (b : Bool) → Changed own_name own_bytes name files at old new → (if b then Some (own_bytes new) else None) ≡ within old.room (own_bytes old ++ piece) → (if b then Some (quiet_files (set files at new)) else None) ≡ grown (rooms_of files) name piece (quiet_files files)
grown_there name piece files at old new b change is =
    let room : old.room ≡ room_of (rooms_of files) name = ap (λ (file : QuietFile). file.room) change.is ∙ sym (room_at name files at old change.found) in
    let put : quiet_files (set files at new) ≡ with_file (quiet_files files) name (own_bytes new) =
    files_by-set own_name own_bytes name files at new change.found (new_name own_name own_bytes name files at old new change) in
    elim b as (λ t. b ≡ t → (if t then Some (quiet_files (set files at new)) else None)
    ≡ option_and_then (λ bytes. Some (with_file (quiet_files files) name bytes)) (if t then Some (own_bytes new) else None)) [
      | true ↦ λ _. ap (λ (m : Files). Some m) put
      | false ↦ λ _. refl
    ] refl
    ∙ ap (option_and_then (λ bytes. Some (with_file (quiet_files files) name bytes))) (is ∙ ap (λ (r : ℕ). within r (own_bytes old ++ piece)) room)
    ∙ sym (ap (option_and_then (λ had. option_and_then (λ bytes. Some (with_file (quiet_files files) name bytes)) (within (room_of (rooms_of files) name) (had ++ piece))))
    (old_held own_name own_bytes name files at old new change))

-- the first files of a list have got their rooms, and nothing else changed
pub record Reserved (before now : List QuietFile) (done : ℕ) : Type 0 where
  pub files : quiet_files now ≡ quiet_files before
  pub rooms : rooms_of now ≡ rooms_of before
  pub within : All IsWithin now
  pub reserved : AllWithin IsReserved now 0 done

-- one file more has got its room
pub one_reserved : (before now : List QuietFile) (done : ℕ) (old new : QuietFile) → done < length now → old ≡ get_or now done old → new.name ≡ old.name → own_bytes new ≡ own_bytes old → new.room ≡ old.room → IsWithin new → IsReserved new → Reserved before now done → Reserved before (set now done new) (done + 1)
one_reserved before now done old new inside is named kept roomed fits has first = record {
  files = files_stay now done old new is named kept ∙ first.files;
  rooms = rooms_stay now done old new is named roomed ∙ first.rooms;
  within = All-set IsWithin now done new fits first.within;
  reserved = AllWithin-more_set now done new inside IsReserved first.reserved has;
}
