-- A certificate's file that is read in pieces, and taken as it is read.
use Rattle.std.proofs.Common.{◌≡◌, ℕ, ◌+◌, ◌<◌, ◌≤◌, List, [], ◌++◌, length, take, refl, sym, ◌∙◌, subst, arith, length-append, length-take-le}
use Rattle.coord_io.specs.Files.{IsLonger, ReadsAt}
use Rattle.coord_io.specs.Goes.{Stays}
use Rattle.coord_io.specs.Outside.{Changes, FolderState, IsMissing, IsReadAlone, Told}
use Rattle.coord_io.proofs.Readings.{Reading, reading_ends, reading_long, reading_missing, reading_more, reading_start, reading_stays}
use Rattle.margin_rows.specs.Case.{Case}
use Rattle.cert_check.specs.Checking.{HasRead}
use Rattle.cert_check.specs.Streams.{Reads}
use Rattle.cert_check.specs.declared.stream.TextCheck.{TextCheck}

-- the bytes up to a place were read, and taken as the text
pub record SoFar (case : Case) (name : List ℕ) (before now : FolderState) (text : TextCheck) (place : ℕ) : Type 0 where
  pub bytes : List ℕ
  pub reading : Reading name before now bytes
  pub long : length bytes ≡ place
  pub reads : Reads case text bytes text.lines.fault

module _ (case : Case) (name : List ℕ) (before now later : FolderState) (text : TextCheck) (place : ℕ) (so_far : SoFar case name before now text place) where
  at_bytes : (buffer : List ℕ) (count : ℕ) → Changes now later (λ m _. ReadsAt name place buffer count m) → Changes now later (λ m _. ReadsAt name (length so_far.bytes) buffer count m)
  at_bytes buffer count call = subst (λ (n : ℕ). Changes now later (λ m _. ReadsAt name n buffer count m)) (sym so_far.long) call

  pub more_read : (buffer : List ℕ) (count : ℕ) (after : TextCheck) → Changes now later Stays → Changes now later (λ m _. ReadsAt name place buffer count m) → now.reads ≤ later.reads → 0 < count → count ≤ length buffer
      → ((bytes : List ℕ) → Reads case text bytes text.lines.fault → Reads case after (bytes ++ take count buffer) after.lines.fault) → SoFar case name before later after (place + count)
  more_read buffer count after stays call rises some within takes = record {
    bytes = so_far.bytes ++ take count buffer;
    reading = reading_more buffer count so_far.reading stays (at_bytes buffer count call) rises some within;
    long = length-append so_far.bytes (take count buffer) ∙ (let part = length-take-le count buffer within in omega (arith, part, so_far.long));
    reads = takes so_far.bytes so_far.reads;
  }

  pub all_read : (buffer : List ℕ) → Changes now later (λ m _. ReadsAt name place buffer 0 m) → 0 < length buffer → place ≤ 536870912 → HasRead case name before later text
  all_read buffer call room within = record {
    bytes = so_far.bytes;
    whole = record { file = reading_ends buffer so_far.reading (at_bytes buffer 0 call) room; within = omega (arith, so_far.long, within) };
    reads = so_far.reads;
  }

  pub longer : (buffer : List ℕ) (count limit : ℕ) → Changes now later (λ m _. ReadsAt name place buffer count m) → 0 < count → limit < place + count → Told before later (λ m. IsLonger m name limit)
  longer buffer count limit call some far = reading_long buffer count limit so_far.reading (at_bytes buffer count call) some (omega (arith, so_far.long, far))

  pub missed : now.reads ≤ later.reads → IsMissing name now later → IsMissing name before later
  missed rises missing = reading_missing so_far.reading rises missing

  pub alone : now.writes ≡ before.writes → Changes now later Stays → now.reads ≤ later.reads → later.writes ≡ now.writes → IsReadAlone before later
  alone writes stays rises left = record { stay = reading_stays so_far.reading stays; reads = (let low = so_far.reading.no_fall in omega (arith, low, rises)); writes = left ∙ writes }

pub none_read : (case : Case) (name : List ℕ) (before : FolderState) (text : TextCheck) → Reads case text [] text.lines.fault → SoFar case name before before text 0
none_read case name before text begun = record { bytes = []; reading = reading_start name before; long = refl; reads = begun }
