use Rattle.std.proofs.Common.{◌≡◌, inl, inr, ℕ, ◌≤◌, List, ◌++◌, Result, Ok, Err, IfOk, length, min, take, drop, ◌∙◌, arith, length-append, length-drop, length-take}
use Rattle.std.proofs.lemmas.List.{take-append-le}
use Rattle.coord_io.specs.Files.{Files, ReadsAt}
use Rattle.coord_io.proofs.Goings.{goes_as}
use Rattle.coord_run.proofs.tests.folders.ByteFolderFolder.read_at.Goals as goal

-- what is read into the front of a buffer is read into the buffer
reads_wider :
    (name : List ℕ) (place : ℕ) (buf new : List ℕ) (wanted count : ℕ) (m : Files)
    → length new ≡ wanted → wanted ≡ min (length buf) 1 → count ≤ length new → ReadsAt name place new count m → ReadsAt name place (new ++ drop wanted buf) count m
reads_wider name place buf new wanted count m long is within at = (
  at.0,
  at.1,
  record {
    fits = at.2.fits;
    front = take-append-le count new (drop wanted buf) within ∙ at.2.front;
    ends = λ none. elim (at.2.ends none) [
      | inl empty ↦ inl (let all = length-append new (drop wanted buf) in let rest = length-drop wanted buf in omega arith)
      | inr past ↦ inr past
    ];
  },
)

-- what follows from two facts for a value, for that value
both_ok : {T E : Type 0} {P Q R : T → Type 0} (r : Result T E) → IfOk r P → IfOk r Q → ((x : T) → P x → Q x → R x) → IfOk r R
both_ok (Ok x) one other then = then x one other
both_ok (Err e) one other then = tt

-- src/tests/folders.rt:15:5
pub returns-clause-bytes : goal.returns-clause-bytes
returns-clause-bytes c = both_ok c.read_at.result c.read_at.ensures.within c.read_at.ensures.bytes (λ count within call.
    goes_as (λ m n was at.
    reads_wider c.args.name.now c.args.place c.args.buf.now c.read_at.new.buf c.min-wanted.result count m
    (let long = c.read_at.auto.buf in let front = length-take c.min-wanted.result c.args.buf.now in omega (arith, c.min-wanted.ensures))
    c.min-wanted.ensures (let long = c.read_at.auto.buf in omega arith) at) call)
