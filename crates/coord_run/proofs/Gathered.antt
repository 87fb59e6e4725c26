-- Bytes that are gathered in a room, and go from there to a file.
use Rattle.std.specs.Option.{ForSome}
use Rattle.std.proofs.Common.{◌≡◌, ◌∙◌, ℕ, zero, suc, take, List, [], ◌∷◌, ◌++◌, Result, Ok, Err, IsOk, is_ok, cond, ap, append-nil, append_assoc, refl, subst, sym}
use Rattle.coord_io.proofs.Changes.{gains_more}
use Rattle.coord_io.proofs.Goings.{goes_as, goes_on}
use Rattle.coord_io.proofs.HandedOver.{Handed, handed_none, handed_part}
use Rattle.coord_io.specs.Files.{Gains, GainsPart, HasFile}
use Rattle.coord_io.specs.Outside.{Changes, FolderState}
use Rattle.coord_text.specs.Claims.{text_of}
use Rattle.cert_text.specs.Printing.{Prints}
use Rattle.coord_run.specs.Pieces.{LeavesRest}

-- the same, of the files alone
pub handed : (name bytes rest : List ℕ) (before after : FolderState) → LeavesRest name bytes rest before after → Handed (Gains name) before.files after.files bytes rest
handed name bytes rest before after is = record { gone = is.gone; all = is.all; given = is.given }

-- bytes were added, and that did not fail
pub grown : {T E : Type 0} (r : Result T E) (new changed old : List ℕ) → new ≡ cond (is_ok r) changed old → IsOk r → new ≡ changed
grown (Ok x) new changed old is there = is
grown (Err e) new changed old is there = let no : ⊥ = cc in absurd no

-- nothing has gone yet, and the file is there
pub none_gone : (name bytes : List ℕ) (before after : FolderState) → after ≡ before → ForSome before.files (λ m. HasFile m name) → LeavesRest name bytes bytes before after
none_gone name bytes before after same there =
    let none = handed_none before.files name bytes there in
    subst (λ (f : FolderState). LeavesRest name bytes bytes before f) (sym same) (record { gone = none.gone; all = none.all; given = none.given })

-- all that was gathered has gone, and the line too
pub both_gone : (name room line : List ℕ) (before between after : FolderState) → Changes before between (Gains name room) → Changes between after (Gains name line)
    → LeavesRest name (room ++ line) [] before after
both_gone name room line before between after first second = record {
  gone = room ++ line;
  all = append-nil (room ++ line);
  given = goes_on (gains_more name room line) first second;
}

-- a line was printed and gathered: of all the text what is gathered and what is still to print is left
pub line_gathered : (name text room rest line_bytes : List ℕ) (left later : List (List ℕ)) (before between after : FolderState) → Prints left line_bytes later
    → LeavesRest name text (room ++ text_of left) before between → LeavesRest name (room ++ line_bytes) rest between after → LeavesRest name text (rest ++ text_of later) before after
line_gathered name text room rest line_bytes left later before between after printed sofar now = record {
  gone = sofar.gone ++ now.gone;
  all =
      append_assoc sofar.gone now.gone (rest ++ text_of later)
      ∙ ap (λ b. sofar.gone ++ b) (sym (append_assoc now.gone rest (text_of later)) ∙ ap (λ b. b ++ text_of later) now.all ∙ append_assoc room line_bytes (text_of later)
      ∙ ap (λ b. room ++ b) (ap (λ b. b ++ text_of later) printed.whole ∙ ap text_of (sym printed.first)))
      ∙ sofar.all;
  given = goes_on (gains_more name sofar.gone now.gone) sofar.given now.given;
}

-- a front of some bytes is one of these bytes and more
front_of_more : (count : ℕ) (bytes more : List ℕ) → (k : ℕ) × (take count bytes ≡ take k (bytes ++ more))
front_of_more zero bytes more = (0, refl)
front_of_more (suc count) [] more = (0, refl)
front_of_more (suc count) (b ∷ bytes) more = let front = front_of_more count bytes more in (suc front.0, ap (λ l. b ∷ l) front.1)

pub part_of_more : (name bytes more : List ℕ) (before after : FolderState) → Changes before after (GainsPart name bytes) → Changes before after (GainsPart name (bytes ++ more))
part_of_more name bytes more before after part =
    goes_as (λ m n was some.
    let front = front_of_more some.0 bytes more in
    (front.0, subst (λ (b : List ℕ). Gains name b m n) front.1 some.1)) part

-- writing failed after a front of the text had gone: the file gained a front of the text
pub front_gone : (name text rest more : List ℕ) (before between after : FolderState) → LeavesRest name text (rest ++ more) before between
    → Changes between after (GainsPart name rest) → Changes before after (GainsPart name text)
front_gone name text rest more before between after sofar part =
    handed_part (gains_more name) (handed name text (rest ++ more) before between sofar) (part_of_more name rest more between after part)

-- and after all that was gathered had gone
pub line_cut : (name room line : List ℕ) (before between after : FolderState) → Changes before between (Gains name room)
    → Changes between after (GainsPart name line) → Changes before after (GainsPart name (room ++ line))
line_cut name room line before between after first part =
    handed_part {gives = Gains name} (gains_more name) (record { gone = room; all = refl; given = first }) part

-- writing the gathered line failed
pub line_failed : (name text room line_bytes : List ℕ) (left later : List (List ℕ)) (before between after : FolderState) → Prints left line_bytes later
    → LeavesRest name text (room ++ text_of left) before between → Changes between after (GainsPart name (room ++ line_bytes)) → Changes before after (GainsPart name text)
line_failed name text room line_bytes left later before between after printed sofar part =
    front_gone name text (room ++ line_bytes) (text_of later) before between after
    (record {
      gone = sofar.gone;
      all = ap (λ b. sofar.gone ++ b) (append_assoc room line_bytes (text_of later) ∙ ap (λ b. room ++ b) (ap (λ b. b ++ text_of later) printed.whole ∙ ap text_of (sym printed.first))) ∙ sofar.all;
      given = sofar.given;
    })
    part

-- nothing is left to print, and all that was gathered has gone
pub all_gone : (name text room : List ℕ) (left : List (List ℕ)) (before between after : FolderState) → left ≡ []
    → LeavesRest name text (room ++ text_of left) before between → Changes between after (Gains name room) → Changes before after (Gains name text)
all_gone name text room left before between after none sofar added =
    let whole : sofar.gone ++ room ≡ text = ap (λ b. sofar.gone ++ b) (sym (append-nil room) ∙ ap (λ (l : List (List ℕ)). room ++ text_of l) (sym none)) ∙ sofar.all in
    subst (λ (b : List ℕ). Changes before after (Gains name b)) whole (goes_on (gains_more name sofar.gone room) sofar.given added)
