-- What a call on a quiet folder or sink does, in the words of all folders and sinks.
use Rattle.std.proofs.Common.{◌≡◌, ℕ, Bool, true, false, nat_le, if◌then◌else◌, List, [], ◌++◌, length, Option, Some, None, refl, sym, ap, subst, ◌∙◌}
use Rattle.std.specs.Option.{option_and_then}
use Rattle.std.proofs.lemmas.Option.{option_and_then_some}
use Rattle.coord_io.specs.Files.{Files, held, with_file, Becomes, Gains, ReadsAt, CopiesFront}
use Rattle.coord_io.specs.Goes.{Goes}
use Rattle.coord_io.specs.Outside.{IsMissing}
use Rattle.coord_io.specs.Quiet.{Rooms, emptied, grown, room_of, within}

-- bytes that are within a room are the same bytes
within_same : (room : ℕ) (bytes same : List ℕ) → within room bytes ≡ Some same → same ≡ bytes
within_same room bytes same is =
    elim (nat_le (length bytes) room) as (λ b. (if b then Some bytes else None) ≡ Some same → same ≡ bytes) [
      | true ↦ λ some. cc
      | false ↦ λ some. let no : ⊥ = cc in absurd no
    ] is

-- if a folder tells afterwards what it was with a file emptied, that file is empty
pub emptied_becomes : (told later : Option Files) (name : List ℕ) → later ≡ option_and_then (emptied name) told → Goes told later (Becomes name [])
emptied_becomes told later name is = record {
  came = λ n now. option_and_then_some (emptied name) told n (sym is ∙ now) (λ m was made. (
    m,
    was,
    option_and_then_some (λ _. Some (with_file m name [])) (held m name) n made (λ had _ put. let same : n ≡ with_file m name [] = cc in same),
  ));
}

grown_gained : (rooms : Rooms) (name piece : List ℕ) (m n : Files) → grown rooms name piece m ≡ Some n → Gains name piece m n
grown_gained rooms name piece m n made =
    option_and_then_some (λ had. option_and_then (λ bytes. Some (with_file m name bytes)) (within (room_of rooms name) (had ++ piece))) (held m name) n made (λ had was more.
    option_and_then_some (λ bytes. Some (with_file m name bytes)) (within (room_of rooms name) (had ++ piece)) n more (λ bytes fits put.
    let is : n ≡ with_file m name bytes = cc in
    record { had = had; was = was; becomes = is ∙ ap (with_file m name) (within_same (room_of rooms name) (had ++ piece) bytes fits) }))

-- if a folder tells afterwards what it was with a piece within a file's room, that file gained exactly this
pub grown_gains : (told later : Option Files) (rooms : Rooms) (name piece : List ℕ) → later ≡ option_and_then (grown rooms name piece) told → Goes told later (Gains name piece)
grown_gains told later rooms name piece is = record {
  came = λ n now. option_and_then_some (grown rooms name piece) told n (sym is ∙ now) (λ m was made. (m, was, grown_gained rooms name piece m n made));
}

-- what is told while the object tells
pub told_is : {T : Type 0} (b : Bool) (m : T) (told : Option T) → told ≡ (if b then Some m else None) → b ≡ true → told ≡ Some m
told_is {T} b m told is tells = is ∙ ap (λ (t : Bool). if t then Some m else None) tells

-- a read that finds no file of the name in files that are told
pub missing_told : (told : Option Files) (m : Files) (name : List ℕ) → told ≡ Some m → held m name ≡ None → IsMissing name (record { files = told; reads = 0; writes = 0 }) (record { files = told; reads = 0; writes = 0 })
missing_told told m name is none = record {
  absent = record { came = λ n now. let same : m ≡ n = cc in (n, now, (subst (λ (f : Files). held f name ≡ None) same none, refl)) };
  untold = λ now. let no : ⊥ = cc in absurd no;
}

-- a read of a file that is told
pub reads_told : (told : Option Files) (m : Files) (name bytes buffer : List ℕ) (place count : ℕ) → told ≡ Some m → held m name ≡ Some bytes → CopiesFront bytes place buffer count → Goes told told (λ k _. ReadsAt name place buffer count k)
reads_told told m name bytes buffer place count is some front = record {
  came = λ n now. let same : m ≡ n = cc in (n, now, (bytes, subst (λ (f : Files). held f name ≡ Some bytes) same some, front));
}
