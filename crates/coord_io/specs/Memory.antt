-- A folder and a sink in memory (ours), as their callers see them.
use Rattle.std.specs.Prelude.{◌≢◌, ℕ, ◌<◌, List, length, map, slice_index_or, string_bytes, refl}
use Rattle.std.specs.FinMap.{code, from_entries}
use Rattle.std.specs.Coded.{Coded, code_by, coded×, coded_list, coded_ℕ}
use Rattle.coord_io.specs.Files.{Files}
use Rattle.coord_io.specs.declared.mem_file.MemFile.{MemFile}

-- what a folder in memory holds, and how often reading and writing failed
pub record MemFolderData : Type 0 where
  pub files : Files
  pub reads : ℕ
  pub writes : ℕ

-- such a state is stored as its three parts
abbrev pub folder_code : Coded MemFolderData
folder_code =
    code_by (Files × (ℕ × ℕ)) (coded× (code (coded_list coded_ℕ) (coded_list coded_ℕ)) (coded× coded_ℕ coded_ℕ))
    (λ s. (s.files, (s.reads, s.writes)))
    (λ p. record { files = p.0; reads = p.1.0; writes = p.1.1 })
    (λ _. refl)

-- what a sink in memory was given, and how often writing failed
pub record MemSinkData : Type 0 where
  pub written : List ℕ
  pub faults : ℕ

-- the bytes of a file's name
abbrev pub name_of : MemFile → List ℕ
name_of file = string_bytes file.name

-- the files of a list by their names; of two of one name the first counts
abbrev pub files_of : List MemFile → Files
files_of files = from_entries (map (λ file. (name_of file, file.bytes.items)) files)

-- no two files of the list have one name
abbrev pub HaveDistinctNames : List MemFile → Type 0
HaveDistinctNames files =
    (i j : ℕ) (d : MemFile) → i < j → j < length files → name_of (slice_index_or files i d) ≢ name_of (slice_index_or files j d)
