-- The place of a name in a list of files, and what changes with the file there. A file is anything with a name and bytes.
use Rattle.std.proofs.Common.{◌≡◌, ◌≢◌, ℕ, zero, suc, ◌+◌, ◌-◌, ◌<◌, ◌≤◌, Bool, true, false, cond, not, List, [], ◌∷◌, ◌++◌, length, get_or, set, drop, map, Option, Some, None, refl, sym, ap, subst, ◌∙◌, arith, nat_lt, IsSome, is_some, get_or-drop, length-drop}
use borrow.Author.Tests.{ltb-true, ltb-false}
use Rattle.std.specs.List.{position, position_or_len}
use Rattle.std.specs.Str.{bytes_eq}
use Rattle.std.specs.Ordering.{nat_cmp}
use Rattle.std.specs.Cmp.Lexicographic.{slice_cmp, nat_list_cmp_total}
use Rattle.std.specs.FinMap.{from_entries, get-empty, get-from_entries, from_entries_push, slice_cmp-IsAntisymmetric, nat_cmp-IsAntisymmetric}
use Rattle.std.proofs.lemmas.List.{map-append, get_or_default}
use Rattle.std.proofs.lemmas.List.Quantifiers.{position-Some}
use Rattle.std.proofs.lemmas.Slice.Eq.{bytes_eq-Decides}
use Rattle.coord_io.specs.Files.{Files, held, HasFile, with_file, Becomes, Gains}
use Rattle.coord_io.specs.declared.mem_file.MemFile.{MemFile}
use Rattle.coord_io.proofs.Changes.{held-with_file, with_file_again, with_file_held, with_file_swap}

-- the bytes of a file in memory
abbrev pub mem_bytes : MemFile → List ℕ
mem_bytes file = file.bytes.items

pub one_more : (n : ℕ) → 1 + n ≡ suc n
one_more n = omega arith

-- a search that gives nothing found no place
pub not_found : (p : Option ℕ) → is_some p ≡ false → p ≡ None
not_found None is = refl
not_found (Some at) is = let no : ⊥ = cc in absurd no

module _ {T : Type 0} (name_of bytes_of : T → List ℕ) where
  -- the files of a list by their names; of two of one name the first counts
  abbrev pub files_by : List T → Files
  files_by files = from_entries (map (λ file. (name_of file, bytes_of file)) files)

  -- the test by which a file of this name is looked for
  abbrev pub is_named : List ℕ → T → Bool
  is_named name file = bytes_eq name (name_of file)

  -- what is held, by the first file and the others
  held_first : (name : List ℕ) (file : T) (files : List T) (b : Bool) → is_named name file ≡ b → held (files_by (file ∷ files)) name ≡ cond b (Some (bytes_of file)) (held (files_by files) name)
  held_first name file files b is =
      held-with_file (files_by files) (name_of file) (bytes_of file) name
      ∙ ap (λ (t : Bool). cond t (Some (bytes_of file)) (held (files_by files) name)) is

  held_none : (name : List ℕ) (files : List T) → length files ≤ position_or_len (is_named name) files → held (files_by files) name ≡ None
  held_none name [] far = get-empty (slice_cmp nat_cmp) name
  held_none name (file ∷ files) far =
      elim (is_named name file) as (λ b. is_named name file ≡ b → suc (length files) ≤ cond (not b) (1 + position_or_len (is_named name) files) 0 → held (files_by (file ∷ files)) name ≡ None) [
        | true ↦ λ is past. absurd (omega arith)
        | false ↦ λ is past. held_first name file files false is ∙ held_none name files (omega arith)
      ] refl far

  held_some : (name : List ℕ) (files : List T) (d : T) → position_or_len (is_named name) files < length files → held (files_by files) name ≡ Some (bytes_of (get_or files (position_or_len (is_named name) files) d))
  held_some name [] d near = absurd (omega arith)
  held_some name (file ∷ files) d near =
      elim (is_named name file) as (λ b. is_named name file ≡ b → cond (not b) (1 + position_or_len (is_named name) files) 0 < suc (length files)
      → held (files_by (file ∷ files)) name ≡ Some (bytes_of (get_or (file ∷ files) (cond (not b) (1 + position_or_len (is_named name) files) 0) d))) [
        | true ↦ λ is within. held_first name file files true is
        | false ↦ λ is within. held_first name file files false is ∙ held_some name files d (omega arith)
            ∙ ap (λ (k : ℕ). Some (bytes_of (get_or (file ∷ files) k d))) (sym (one_more (position_or_len (is_named name) files)))
      ] refl near

  set_some : (name : List ℕ) (files : List T) (new : T) → position_or_len (is_named name) files < length files → name_of new ≡ name → files_by (set files (position_or_len (is_named name) files) new) ≡ with_file (files_by files) name (bytes_of new)
  set_some name [] new near named = absurd (omega arith)
  set_some name (file ∷ files) new near named =
      elim (is_named name file) as (λ b. is_named name file ≡ b → cond (not b) (1 + position_or_len (is_named name) files) 0 < suc (length files)
      → files_by (set (file ∷ files) (cond (not b) (1 + position_or_len (is_named name) files) 0) new) ≡ with_file (files_by (file ∷ files)) name (bytes_of new)) [
        | true ↦ λ is within.
            ap (λ (k : List ℕ). with_file (files_by files) k (bytes_of new)) named
            ∙ sym (with_file_again (files_by files) name (bytes_of file) (bytes_of new))
            ∙ ap (λ (k : List ℕ). with_file (with_file (files_by files) k (bytes_of file)) name (bytes_of new)) ((bytes_eq-Decides name (name_of file)).0 is)
        | false ↦ λ is within.
            ap (λ (k : ℕ). files_by (set (file ∷ files) k new)) (one_more (position_or_len (is_named name) files))
            ∙ ap (λ m. with_file m (name_of file) (bytes_of file)) (set_some name files new (omega arith) named)
            ∙ with_file_swap (files_by files) name (bytes_of new) (name_of file) (bytes_of file)
            (λ same. let no : ⊥ = let yes = (bytes_eq-Decides name (name_of file)).1 (sym same) in cc in no)
      ] refl near

  -- a place that was found is the first
  pub placed : (name : List ℕ) (files : List T) (at : ℕ) → position (is_named name) files ≡ Some at → (position_or_len (is_named name) files ≡ at) × (position_or_len (is_named name) files < length files)
  placed name files at found =
      elim (nat_lt (position_or_len (is_named name) files) (length files)) as (λ b. nat_lt (position_or_len (is_named name) files) (length files) ≡ b
      → cond b (Some (position_or_len (is_named name) files)) None ≡ Some at → (position_or_len (is_named name) files ≡ at) × (position_or_len (is_named name) files < length files)) [
        | true ↦ λ is some. (cc, ltb-true _ _ is)
        | false ↦ λ is some. let no : ⊥ = cc in absurd no
      ] refl found

  -- where no place is found, none is before the end
  unplaced : (name : List ℕ) (files : List T) → position (is_named name) files ≡ None → length files ≤ position_or_len (is_named name) files
  unplaced name files none =
      elim (nat_lt (position_or_len (is_named name) files) (length files)) as (λ b. nat_lt (position_or_len (is_named name) files) (length files) ≡ b
      → cond b (Some (position_or_len (is_named name) files)) None ≡ None → length files ≤ position_or_len (is_named name) files) [
        | true ↦ λ is some. let no : ⊥ = cc in absurd no
        | false ↦ λ is some. ltb-false _ _ is
      ] refl none

  -- where no place has the name, no file of it is held
  pub held-no_place : (name : List ℕ) (files : List T) → position (is_named name) files ≡ None → held (files_by files) name ≡ None
  held-no_place name files none = held_none name files (unplaced name files none)

  -- the place of the name holds the file of it
  pub held-place : (name : List ℕ) (files : List T) (at : ℕ) (d : T) → position (is_named name) files ≡ Some at → held (files_by files) name ≡ Some (bytes_of (get_or files at d))
  held-place name files at d found =
      let first = placed name files at found in
      subst (λ (k : ℕ). held (files_by files) name ≡ Some (bytes_of (get_or files k d))) first.0 (held_some name files d first.1)

  -- to change the file at the place of its name is to put it
  pub files_by-set : (name : List ℕ) (files : List T) (at : ℕ) (new : T) → position (is_named name) files ≡ Some at → name_of new ≡ name → files_by (set files at new) ≡ with_file (files_by files) name (bytes_of new)
  files_by-set name files at new found named =
      let first = placed name files at found in
      subst (λ (k : ℕ). files_by (set files k new) ≡ with_file (files_by files) name (bytes_of new)) first.0 (set_some name files new first.1 named)

  -- to push a file of a new name is to put it
  pub files_by-push : (name : List ℕ) (files : List T) (new : T) → position (is_named name) files ≡ None → name_of new ≡ name → files_by (files ++ new ∷ []) ≡ with_file (files_by files) name (bytes_of new)
  files_by-push name files new none named =
      let nothing = sym (get-from_entries nat_list_cmp_total (map (λ (file : T). (name_of file, (bytes_of file))) files) name) ∙ held-no_place name files none in
      ap from_entries (map-append (λ (file : T). (name_of file, (bytes_of file))) files (new ∷ []))
      ∙ ap (λ (k : List ℕ). from_entries (map (λ (file : T). (name_of file, (bytes_of file))) files ++ (k, (bytes_of new)) ∷ [])) named
      ∙ from_entries_push nat_list_cmp_total (slice_cmp-IsAntisymmetric nat_cmp-IsAntisymmetric) (map (λ (file : T). (name_of file, (bytes_of file))) files) name (bytes_of new) nothing

  -- the file at the place of the name has it
  pub name_of-place : (name : List ℕ) (files : List T) (at : ℕ) (d : T) → position (is_named name) files ≡ Some at → name_of (get_or files at d) ≡ name
  name_of-place name files at d found = sym ((bytes_eq-Decides name (name_of (get_or files at d))).0 (position-Some (is_named name) files at d found).1)

  -- a name whose file is held has a place
  pub place_there : (name : List ℕ) (files : List T) → HasFile (files_by files) name → IsSome (position (is_named name) files)
  place_there name files there =
      elim (position (is_named name) files) as (λ p. position (is_named name) files ≡ p → IsSome p) [
        | Some at ↦ λ is. refl
        | None ↦ λ is. let none = held-no_place name files is in
            let no : ⊥ = subst (λ (o : Option (List ℕ)). IsSome o → ⊥) (sym none) (λ some. cc) there in absurd no
      ] refl

  -- a file at a place of the list, and what stands there afterwards
  pub record Changed (name : List ℕ) (files : List T) (at : ℕ) (old new : T) : Type 0 where
    pub found : position (is_named name) files ≡ Some at
    pub is : old ≡ get_or files at old
    pub named : name_of new ≡ name_of old

  pub new_name : (name : List ℕ) (files : List T) (at : ℕ) (old new : T) → Changed name files at old new → name_of new ≡ name
  new_name name files at old new change = change.named ∙ ap name_of change.is ∙ name_of-place name files at old change.found

  pub old_held : (name : List ℕ) (files : List T) (at : ℕ) (old new : T) → Changed name files at old new → held (files_by files) name ≡ Some (bytes_of old)
  old_held name files at old new change = held-place name files at old change.found ∙ ap (λ (f : T). Some (bytes_of f)) (sym change.is)

  -- the file there is emptied
  pub becomes_empty : (name : List ℕ) (files : List T) (at : ℕ) (old new : T) → Changed name files at old new → (bytes_of new) ≡ [] → Becomes name [] (files_by files) (files_by (set files at new))
  becomes_empty name files at old new change none =
      files_by-set name files at new change.found (new_name name files at old new change) ∙ ap (with_file (files_by files) name) none

  -- the file there gains a piece
  pub gains_there : (name : List ℕ) (files : List T) (at : ℕ) (old new : T) (piece : List ℕ) → Changed name files at old new → (bytes_of new) ≡ (bytes_of old) ++ piece → Gains name piece (files_by files) (files_by (set files at new))
  gains_there name files at old new piece change more = record {
    had = (bytes_of old);
    was = old_held name files at old new change;
    becomes = files_by-set name files at new change.found (new_name name files at old new change) ∙ ap (with_file (files_by files) name) more;
  }

  -- the file there keeps its bytes
  pub stays_there : (name : List ℕ) (files : List T) (at : ℕ) (old new : T) → Changed name files at old new → (bytes_of new) ≡ (bytes_of old) → files_by (set files at new) ≡ files_by files
  stays_there name files at old new change same =
      files_by-set name files at new change.found (new_name name files at old new change) ∙ ap (with_file (files_by files) name) same
      ∙ with_file_held (files_by files) name (bytes_of old) (old_held name files at old new change)

  none_named : (name : List ℕ) (files : List T) (d : T) (k : ℕ) → length files ≤ position_or_len (is_named name) files → k < length files → name_of (get_or files k d) ≢ name
  none_named name [] d k far within = absurd (omega arith)
  none_named name (file ∷ files) d zero far within =
      elim (is_named name file) as (λ b. is_named name file ≡ b → suc (length files) ≤ cond (not b) (1 + position_or_len (is_named name) files) 0 → name_of file ≢ name) [
        | true ↦ λ is past. absurd (omega arith)
        | false ↦ λ is past same. let yes = (bytes_eq-Decides name (name_of file)).1 (sym same) in let no : ⊥ = cc in no
      ] refl far
  none_named name (file ∷ files) d (suc k) far within =
      elim (is_named name file) as (λ b. suc (length files) ≤ cond (not b) (1 + position_or_len (is_named name) files) 0 → name_of (get_or files k d) ≢ name) [
        | true ↦ λ past. absurd (omega arith)
        | false ↦ λ past. none_named name files d k (omega arith) (omega arith)
      ] far

  -- where no later place has the name, no later file has it
  pub no_later : (name : List ℕ) (files : List T) (d : T) (from k : ℕ) → position (is_named name) (drop from files) ≡ None → from ≤ k → k < length files → name_of (get_or files k d) ≢ name
  no_later name files d from k none past within same =
      let j : (i : ℕ) × (k ≡ from + i) = (k - from, omega arith) in
      none_named name (drop from files) d j.0 (unplaced name (drop from files) none) (let long = length-drop from files in omega arith)
      (ap name_of (get_or-drop from files j.0 d ∙ ap (λ (i : ℕ). get_or files i d) (sym j.1)) ∙ same)

  -- a name that is found from a place on is that of a file there
  pub later_named : (name : List ℕ) (files : List T) (d : T) (from : ℕ) → is_some (position (is_named name) (drop from files)) ≡ true → (k : ℕ) × (from ≤ k) × (k < length files) × (name_of (get_or files k d) ≡ name)
  later_named name files d from found =
      elim (position (is_named name) (drop from files)) as (λ p. position (is_named name) (drop from files) ≡ p → is_some p ≡ true → (k : ℕ) × (from ≤ k) × (k < length files) × (name_of (get_or files k d) ≡ name)) [
        | None ↦ λ is some. let no : ⊥ = cc in absurd no
        | Some at ↦ λ is some.
            let first = position-Some (is_named name) (drop from files) at d is in
            let near = first.0 in
            let long = length-drop from files in
            (from + at, omega arith, omega arith, ap name_of (sym (get_or-drop from files at d)) ∙ name_of-place name (drop from files) at d is)
      ] refl found

  -- no two files of the list have one name
  abbrev pub AreDistinct : List T → Type 0
  AreDistinct files = (i j : ℕ) (d : T) → i < j → j < length files → name_of (get_or files i d) ≢ name_of (get_or files j d)

  -- a file whose name is found again behind it
  pub named_again : (name : List ℕ) (files : List T) (i : ℕ) (file : T) → name ≡ name_of file → file ≡ get_or files i file → is_some (position (is_named name) (drop (i + 1) files)) ≡ true → AreDistinct files → ⊥
  named_again name files i file named is found distinct =
      let later = later_named name files file (i + 1) found in
      distinct i later.0 file (let past = later.1 in omega arith) later.2 (sym (ap name_of is) ∙ sym named ∙ sym later.3)

  -- a file whose name isn't found again behind it
  pub named_once : (name : List ℕ) (files : List T) (i j : ℕ) (file d : T) → name ≡ name_of file → file ≡ get_or files i file → position (is_named name) (drop (i + 1) files) ≡ None → i < j → j < length files → name_of (get_or files i d) ≢ name_of (get_or files j d)
  named_once name files i j file d named is none past within same =
      no_later name files d (i + 1) j none (omega arith) within
      (sym same ∙ ap name_of (get_or_default files i d file (omega arith)) ∙ sym (ap name_of is) ∙ sym named)
