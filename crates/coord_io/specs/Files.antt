-- The files of a folder (ours), and what a call does to one of them while all others stay as they are.
use Rattle.std.specs.Prelude.{◌≡◌, ◌⊎◌, ℕ, ◌<◌, ◌≤◌, List, [], ◌++◌, length, take, drop, Option, Some, IsSome}
use Rattle.std.specs.Ordering.{nat_cmp}
use Rattle.std.specs.Cmp.Lexicographic.{slice_cmp}
use Rattle.std.specs.FinMap.{FinMap, get, insert}

-- files, from the bytes of a name to the bytes of the file
abbrev pub Files : Type 0
Files = FinMap (slice_cmp nat_cmp) (List ℕ)

-- the bytes of the file of this name, if there is one
abbrev pub held : Files → List ℕ → Option (List ℕ)
held m name = get m name

-- there is a file of this name
abbrev pub HasFile : Files → List ℕ → Type 0
HasFile m name = IsSome (held m name)

-- the files, but with these bytes under this name
abbrev pub with_file : Files → List ℕ → List ℕ → Files
with_file m name bytes = insert m name bytes

-- afterwards the file of this name is exactly these bytes, and all other files are as before
abbrev pub Becomes : List ℕ → List ℕ → Files → Files → Type 0
Becomes name bytes m n = n ≡ with_file m name bytes

-- afterwards the file of this name is as before or empty, and all other files are as before
abbrev pub StaysOrEmpty : List ℕ → Files → Files → Type 0
StaysOrEmpty name m n = (n ≡ m) ⊎ Becomes name [] m n

-- afterwards the file of this name is as before or a front of these bytes, and all other files are as before
abbrev pub StaysOrPart : List ℕ → List ℕ → Files → Files → Type 0
StaysOrPart name bytes m n = (n ≡ m) ⊎ ((count : ℕ) × Becomes name (take count bytes) m n)

-- the file of this name gained exactly these bytes at its end, and all other files are as before
pub record Gains (name added : List ℕ) (m n : Files) : Type 0 where
  pub had : List ℕ
  pub was : held m name ≡ Some had
  pub becomes : Becomes name (had ++ added) m n

-- the file of this name gained a front of these bytes at its end, and all other files are as before
abbrev pub GainsPart : List ℕ → List ℕ → Files → Files → Type 0
GainsPart name bytes m n = (count : ℕ) × Gains name (take count bytes) m n

-- The front of the buffer holds that many of the bytes from the place on. There are none only where
-- the buffer is empty or the place is at or past the end.
pub record CopiesFront (bytes : List ℕ) (place : ℕ) (buffer : List ℕ) (count : ℕ) : Type 0 where
  pub fits : count ≤ length (drop place bytes)
  pub front : take count buffer ≡ take count (drop place bytes)
  pub ends : count ≡ 0 → (length buffer ≡ 0) ⊎ (length bytes ≤ place)

-- there is a file of this name, and the front of the buffer holds that many of its bytes from the place on
abbrev pub ReadsAt : List ℕ → ℕ → List ℕ → ℕ → Files → Type 0
ReadsAt name place buffer count m = (bytes : List ℕ) × (held m name ≡ Some bytes) × CopiesFront bytes place buffer count

-- the file of this name has more bytes than the limit
abbrev pub IsLonger : Files → List ℕ → ℕ → Type 0
IsLonger m name limit = (bytes : List ℕ) × (held m name ≡ Some bytes) × (limit < length bytes)
