-- Bytes that are handed over in pieces.
use Rattle.std.proofs.Common.{◌≡◌, ℕ, ◌+◌, ◌-◌, List, [], ◌++◌, length, take, drop, Option, refl, sym, ap, subst, ◌∙◌, append_assoc, take-append-drop}
use Rattle.std.proofs.lemmas.List.{take_rest}
use Rattle.std.proofs.Math.Seq.{take-append-add}
use Rattle.std.specs.Option.{ForSome}
use Rattle.coord_io.specs.Files.{Files, HasFile, Gains}
use Rattle.coord_io.specs.Goes.{Goes}
use Rattle.coord_io.specs.Written.{Gained}
use Rattle.coord_io.proofs.Changes.{gains_nothing}
use Rattle.coord_io.proofs.Goings.{goes_on, goes_as, goes_stays}

-- of these bytes all but the rest are handed over
pub record Handed {T : Type 0} (gives : List ℕ → T → T → Type 0) (told now : Option T) (bytes rest : List ℕ) : Type 0 where
  pub gone : List ℕ
  pub all : gone ++ rest ≡ bytes
  pub given : Goes told now (gives gone)

-- another piece is handed over
pub handed_more :
    {T : Type 0} {gives : List ℕ → T → T → Type 0} {told now later : Option T} {bytes rest : List ℕ}
    → ((some more : List ℕ) (l m n : T) → gives some l m → gives more m n → gives (some ++ more) l n)
    → (count : ℕ) → Handed gives told now bytes rest → Goes now later (gives (take count rest)) → Handed gives told later bytes (take (length rest - count) (drop count rest))
handed_more {bytes = bytes} {rest = rest} join count before more = record {
  gone = before.gone ++ take count rest;
  all = ap (λ (r : List ℕ). (before.gone ++ take count rest) ++ r) (take_rest rest count)
      ∙ append_assoc before.gone (take count rest) (drop count rest) ∙ ap (λ (r : List ℕ). before.gone ++ r) (take-append-drop count rest) ∙ before.all;
  given = goes_on (join before.gone (take count rest)) before.given more;
}

-- a front of what is left, after all before it, is a front of all
pub handed_part :
    {T : Type 0} {gives : List ℕ → T → T → Type 0} {told now later : Option T} {bytes rest : List ℕ}
    → ((some more : List ℕ) (l m n : T) → gives some l m → gives more m n → gives (some ++ more) l n)
    → Handed gives told now bytes rest → Goes now later (λ m n. (count : ℕ) × gives (take count rest) m n) → Goes told later (λ m n. (count : ℕ) × gives (take count bytes) m n)
handed_part {T} {gives} {bytes = bytes} {rest = rest} join before part =
    goes_on (λ l m n some more.
    let front : before.gone ++ take more.0 rest ≡ take (length before.gone + more.0) bytes =
    sym (take-append-add before.gone rest more.0) ∙ ap (take (length before.gone + more.0)) before.all in
    (length before.gone + more.0, subst (λ (b : List ℕ). gives b l n) front (join before.gone (take more.0 rest) l m n some more.1)))
    before.given part

-- nothing is handed over yet, to a file that is there
pub handed_none : (told : Option Files) (name bytes : List ℕ) → ForSome told (λ m. HasFile m name) → Handed (Gains name) told told bytes bytes
handed_none told name bytes there = record {
  gone = [];
  all = refl;
  given = goes_as (λ m n was same. subst (λ (k : Files). Gains name [] m k) (sym same) (gains_nothing m name (there m was))) (goes_stays told);
}

-- a sink gains some bytes, and then more
pub gained_more : (some more l m n : List ℕ) → Gained some l m → Gained more m n → Gained (some ++ more) l n
gained_more some more l m n first second = second ∙ ap (λ (b : List ℕ). b ++ more) first ∙ append_assoc l some more
