use Rattle.std.proofs.Common.{◌≡◌, ℕ, ◌+◌, ◌≤◌, length, take, Err, refl, ap, ◌∙◌, arith, List, ◌++◌, length-take}
use Rattle.std.proofs.lemmas.List.{take-append-le}
use Rattle.coord_io.specs.Refusals.{refusal_of}
use Rattle.coord_io.specs.declared.refusals.ReadFail.{ReadFail}
use Rattle.coord_io.specs.declared.refusals.ReadFail.TheVariants.{Missing as no_file, Failed as no_read}
use Rattle.coord_io.specs.declared.refusals.ReadRefusal.TheVariants.{Missing}
use Rattle.coord_io.proofs.Readings.{reading_start, reading_stays, reading_more, reading_ends, reading_long, reading_missing}
use Rattle.coord_io.proofs.read.read_whole.Goals as goal

-- a refusal for want of a file comes from a read that found none
missing_from : (fail : ReadFail) → Missing ≡ refusal_of fail → fail ≡ no_file
missing_from no_file is = refl
missing_from no_read is = let no : ⊥ = cc in absurd no

pub loop-read-init : goal.loop-read-init
loop-read-init g c = record { reading = rw c.new-read.ensures.items (reading_start _ _); writes = refl; within = let none = c.new-read.ensures.len in omega arith }

pub returns-in_err-count-clause-missing : goal.returns-in_err-count-clause-missing
returns-in_err-count-clause-missing g c = λ is.
    let gives : Missing ≡ refusal_of c.in_err-count.field-0.0 = (rw is at c.from_residual.ensures).1 in
    reading_missing c.loop-read.invariant.reading c.in_err-count.ensures.reads_counted
    (c.in_err-count.ensures.missing (ap (λ (fail : ReadFail). Err fail) (missing_from _ gives)))

pub returns-in_err-count-clause-unchanged : goal.returns-in_err-count-clause-unchanged
returns-in_err-count-clause-unchanged g c = reading_stays c.loop-read.invariant.reading c.in_err-count.ensures.unchanged

pub returns-then-count-eq0-clause-whole : goal.returns-then-count-eq0-clause-whole
returns-then-count-eq0-clause-whole g c =
    let none : c.in_ok-count.count ≡ 0 = c.if-count-eq0.true in
    let at : c.len-in-loop-read.result ≡ length c.loop-read.read.items = c.len-in-loop-read.ensures ∙ c.loop-read.read.ok.0 in
    reading_ends c.read_at.new.buf c.loop-read.invariant.reading (rw none at (rw at at c.in_ok-count.ensures.bytes))
    (let kept = c.read_at.auto.buf in let long = length-take (c.min.result + 1) c.loop-read.piece in let whole = c.len-in-loop-read.array_long in omega arith)

pub returns-then-count-eq0-clause-unchanged : goal.returns-then-count-eq0-clause-unchanged
returns-then-count-eq0-clause-unchanged g c = reading_stays c.loop-read.invariant.reading c.in_ok-count.ensures.unchanged

pub returns-then-count-room-clause-too_long : goal.returns-then-count-room-clause-too_long
returns-then-count-room-clause-too_long g c = λ most is. (
  cc,
  let at : c.len-in-loop-read.result ≡ length c.loop-read.read.items = c.len-in-loop-read.ensures ∙ c.loop-read.read.ok.0 in
      reading_long c.read_at.new.buf c.in_ok-count.count c.args.limit c.loop-read.invariant.reading (rw at at c.in_ok-count.ensures.bytes)
      (let some = c.if-count-eq0.false in omega arith)
      (let far = c.if-count-room.true in let len = c.len.ensures in let long = c.loop-read.read.ok.0 in omega arith),
)

pub returns-then-count-room-clause-unchanged : goal.returns-then-count-room-clause-unchanged
returns-then-count-room-clause-unchanged g c = reading_stays c.loop-read.invariant.reading c.in_ok-count.ensures.unchanged

pub returns-in_err-extend_from_slice-clause-unchanged : goal.returns-in_err-extend_from_slice-clause-unchanged
returns-in_err-extend_from_slice-clause-unchanged g c = reading_stays c.loop-read.invariant.reading c.in_ok-count.ensures.unchanged

pub loop-read-preserved : goal.loop-read-preserved
loop-read-preserved g c =
    let at : c.len-in-loop-read.result ≡ length c.loop-read.read.items = c.len-in-loop-read.ensures ∙ c.loop-read.read.ok.0 in
    let fits : c.in_ok-count.count ≤ length c.read_at.new.buf = let within = c.in_ok-count.ensures.within in let kept = c.read_at.auto.buf in omega arith in
    let items : c.extend_from_slice.new.self.items ≡ c.loop-read.read.items ++ take c.in_ok-count.count c.read_at.new.buf =
    c.in_ok-extend_from_slice.ensures.items ∙ ap (λ (r : List ℕ). c.loop-read.read.items ++ r) (take-append-le c.in_ok-count.count c.read_at.new.buf _ fits) in
    record {
      reading = rw items (reading_more c.read_at.new.buf c.in_ok-count.count c.loop-read.invariant.reading c.in_ok-count.ensures.unchanged
          (rw at at c.in_ok-count.ensures.bytes) c.in_ok-count.ensures.reads_counted (let some = c.if-count-eq0.false in omega arith) fits);
      writes = c.in_ok-count.ensures.writes_left ∙ c.loop-read.invariant.writes;
      within = let near = c.if-count-room.false in let len = c.len.ensures in let more = c.in_ok-extend_from_slice.ensures.len in let before = c.loop-read.invariant.within in
          omega (arith, length-take {A = ℕ});
    }
