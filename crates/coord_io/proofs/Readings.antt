-- A file that is read in pieces.
use Rattle.std.proofs.Common.{◌≡◌, ◌⊎◌, inl, inr, ℕ, ◌+◌, ◌<◌, ◌≤◌, List, [], ◌++◌, length, take, Option, Some, refl, sym, ap, subst, ◌∙◌, arith, length-append, length-take-le, length-drop, take_all}
use Rattle.std.proofs.Math.Seq.{take-add}
use Rattle.coord_io.specs.Files.{Files, held, ReadsAt, IsLonger}
use Rattle.coord_io.specs.Goes.{Goes, Stays}
use Rattle.coord_io.specs.Outside.{Changes, FolderState, IsMissing}
use Rattle.coord_io.proofs.Counting.{rose_last}
use Rattle.coord_io.proofs.Goings.{goes_on, goes_as, goes_both, goes_stays}

-- nothing is read so far, or a front of the file
abbrev pub IsReadOf : List ℕ → List ℕ → Files → Type 0
IsReadOf name read m = (read ≡ []) ⊎ ((bytes : List ℕ) × (held m name ≡ Some bytes) × (read ≡ take (length read) bytes))

-- what is known in the course of a reading
pub record Reading (name : List ℕ) (before now : FolderState) (read : List ℕ) : Type 0 where
  pub file : Changes before now (λ m n. (n ≡ m) × IsReadOf name read m)
  pub first : read ≡ [] → now.reads ≡ before.reads
  pub no_fall : before.reads ≤ now.reads

pub reading_start : (name : List ℕ) (before : FolderState) → Reading name before before []
reading_start name before = record {
  file = goes_as (λ m n was same. (same, inl refl)) (goes_stays before.files);
  first = λ _. refl;
  no_fall = omega arith;
}

-- the files stay over the whole reading
pub reading_stays : {name : List ℕ} {before now : FolderState} {later : Option Files} {read : List ℕ} → Reading name before now read → Goes now.files later Stays → Goes before.files later Stays
reading_stays so_far call = goes_on (λ l m n known same. same ∙ known.0) so_far.file call

-- what is read so far is the front of the file
front_of : (name read bytes : List ℕ) (m : Files) → IsReadOf name read m → held m name ≡ Some bytes → read ≡ take (length read) bytes
front_of name read bytes m known is = elim known [
  | inl none ↦ subst (λ (r : List ℕ). r ≡ take (length r) bytes) (sym none) refl
  | inr front ↦ let same : front.0 ≡ bytes = cc in subst (λ (b : List ℕ). read ≡ take (length read) b) same front.2
]

-- what one read gives of the file as it was at first
at_first : (name read buffer : List ℕ) (count : ℕ) (l m : Files) → m ≡ l → ReadsAt name (length read) buffer count m → ReadsAt name (length read) buffer count l
at_first name read buffer count l m same at = subst (λ (k : Files). ReadsAt name (length read) buffer count k) same at

-- a piece that is read goes on from what was read
front_more : (name read buffer : List ℕ) (count : ℕ) (m : Files) → IsReadOf name read m → ReadsAt name (length read) buffer count m → count ≤ length buffer → IsReadOf name (read ++ take count buffer) m
front_more name read buffer count m known at within =
    let long : length (read ++ take count buffer) ≡ length read + count = length-append read (take count buffer) ∙ ap (λ (k : ℕ). length read + k) (length-take-le count buffer within) in
    inr (
      at.0,
      at.1,
      ap (λ (r : List ℕ). r ++ take count buffer) (front_of name read at.0 m known at.1) ∙ ap (λ (r : List ℕ). take (length read) at.0 ++ r) at.2.front
          ∙ sym (take-add (length read) count at.0) ∙ ap (λ (k : ℕ). take k at.0) (sym long),
    )

pub reading_more :
    {name : List ℕ} {before now later : FolderState} {read : List ℕ} (buffer : List ℕ) (count : ℕ)
    → Reading name before now read → Changes now later Stays → Changes now later (λ m _. ReadsAt name (length read) buffer count m)
    → now.reads ≤ later.reads → 0 < count → count ≤ length buffer → Reading name before later (read ++ take count buffer)
reading_more {name} {read = read} buffer count so_far stays call rises some within = record {
  file = goes_on (λ l m n known piece. (piece.0 ∙ known.0, front_more name read buffer count l known.1 (at_first name read buffer count l m known.0 piece.1) within)) so_far.file (goes_both stays call);
  first = λ none.
      let long : length (read ++ take count buffer) ≡ length read + count = length-append read (take count buffer) ∙ ap (λ (k : ℕ). length read + k) (length-take-le count buffer within) in
      let short : length (read ++ take count buffer) ≡ 0 = ap length none in
      absurd (omega arith);
  no_fall = let low = so_far.no_fall in omega arith;
}

-- a reading that gets nothing into a buffer with room has the whole file
pub reading_ends :
    {name : List ℕ} {before now : FolderState} {later : Option Files} {read : List ℕ} (buffer : List ℕ)
    → Reading name before now read → Goes now.files later (λ m _. ReadsAt name (length read) buffer 0 m) → 0 < length buffer → Goes before.files later (λ m _. held m name ≡ Some read)
reading_ends {name} {read = read} buffer so_far call room = goes_on (λ l m n known piece.
    let at = at_first name read buffer 0 l m known.0 piece in
    let front = front_of name read at.0 l known.1 at.1 in
    let end : length at.0 ≤ length read = elim (at.2.ends refl) [ inl none ↦ absurd (omega arith) | inr past ↦ past ] in
    at.1 ∙ ap (λ (b : List ℕ). Some b) (sym (front ∙ take_all (length read) at.0 end))) so_far.file call

-- a reading that gets more than the limit has a file that is longer
pub reading_long :
    {name : List ℕ} {before now : FolderState} {later : Option Files} {read : List ℕ} (buffer : List ℕ) (count limit : ℕ)
    → Reading name before now read → Goes now.files later (λ m _. ReadsAt name (length read) buffer count m) → 0 < count → limit < length read + count
    → Goes before.files later (λ m _. IsLonger m name limit)
reading_long {name} {read = read} buffer count limit so_far call some more = goes_on (λ l m n known piece.
    let at = at_first name read buffer count l m known.0 piece in
    let left = length-drop (length read) at.0 in
    let fits = at.2.fits in
    (at.0, at.1, omega arith)) so_far.file call

-- a reading that finds no file had read nothing
pub reading_missing :
    {name : List ℕ} {before now later : FolderState} {read : List ℕ}
    → Reading name before now read → now.reads ≤ later.reads → IsMissing name now later → IsMissing name before later
reading_missing {name} {before} {now} {later} {read} so_far rises missing = record {
  absent = goes_on (λ l m n known none. (
    ap (λ (k : Files). held k name) (sym known.0) ∙ none.0,
    elim known.1 [
      | inl empty ↦ none.1 ∙ so_far.first empty
      | inr front ↦ let moved : held m name ≡ held l name = ap (λ (k : Files). held k name) known.0 in let is = front.1 in let no : ⊥ = cc in absurd no
    ],
  )) so_far.file missing.absent;
  untold = λ is. rose_last before.reads now.reads later.reads so_far.no_fall (missing.untold is);
}
