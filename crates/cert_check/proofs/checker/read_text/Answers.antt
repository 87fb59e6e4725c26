use Rattle.std.specs.Prelude.{Err}
use Rattle.std.proofs.Common.{ℕ, ◌+◌, ◌≤◌, List, ◌++◌, length, length-take, refl, ap, ◌∙◌, arith, subst}
use Rattle.std.proofs.lemmas.List.{take-append-le}
use Rattle.cert_check.specs.Streams.{Reads}
use Rattle.cert_check.proofs.Pieces.{all_read, alone, longer, missed, more_read, none_read}
use Rattle.cert_check.proofs.checker.read_text.Goals as goal

pub loop-count-init : goal.loop-count-init
loop-count-init g c = record { so_far = none_read _ _ _ _ c.requires.begun; writes = refl; within = omega arith }

pub returns-in-Err-Missing-clause-stopped : goal.returns-in-Err-Missing-clause-stopped
returns-in-Err-Missing-clause-stopped g c =
    missed _ _ _ _ _ _ _ c.loop-count.invariant.so_far c.in-Err-Missing.ensures.reads_counted (c.in-Err-Missing.ensures.missing (ap Err c.in-Err-Missing.field-0-is))

pub returns-in-Err-Missing-clause-alone : goal.returns-in-Err-Missing-clause-alone
returns-in-Err-Missing-clause-alone g c =
    let e = c.in-Err-Missing.ensures in
    alone _ _ _ _ _ _ _ c.loop-count.invariant.so_far c.loop-count.invariant.writes e.unchanged e.reads_counted e.writes_left

pub returns-in-Err-Failed-clause-alone : goal.returns-in-Err-Failed-clause-alone
returns-in-Err-Failed-clause-alone g c =
    let e = c.in-Err-Failed.ensures in
    alone _ _ _ _ _ _ _ c.loop-count.invariant.so_far c.loop-count.invariant.writes e.unchanged e.reads_counted e.writes_left

pub returns-then-count-eq0-clause-read : goal.returns-then-count-eq0-clause-read
returns-then-count-eq0-clause-read g c =
    let kept = c.read_at.auto.buf in
    let long = length-take (c.min.result + 1) c.loop-count.piece in
    let same = c.loop-count.auto.piece in
    let room = c.requires.room in
    all_read _ _ _ _ _ _ _ c.loop-count.invariant.so_far c.read_at.new.buf (rw c.if-count-eq0.true at c.in-Ok.ensures.bytes) (omega arith) c.loop-count.invariant.within

pub returns-then-count-eq0-clause-alone : goal.returns-then-count-eq0-clause-alone
returns-then-count-eq0-clause-alone g c =
    let e = c.in-Ok.ensures in
    alone _ _ _ _ _ _ _ c.loop-count.invariant.so_far c.loop-count.invariant.writes e.unchanged e.reads_counted e.writes_left

pub returns-then-count-room-clause-stopped : goal.returns-then-count-room-clause-stopped
returns-then-count-room-clause-stopped g c =
    let some = c.if-count-eq0.false in
    let far = c.if-count-room.true in
    (refl, longer _ _ _ _ (g.F.Folder.state c.read_at.new.self) _ _ c.loop-count.invariant.so_far c.read_at.new.buf c.in-Ok.count 536870912 c.in-Ok.ensures.bytes (omega arith) (omega arith))

pub returns-then-count-room-clause-alone : goal.returns-then-count-room-clause-alone
returns-then-count-room-clause-alone g c =
    let e = c.in-Ok.ensures in
    alone _ _ _ _ _ _ _ c.loop-count.invariant.so_far c.loop-count.invariant.writes e.unchanged e.reads_counted e.writes_left

pub loop-count-preserved : goal.loop-count-preserved
loop-count-preserved g c =
    let e = c.in-Ok.ensures in
    let some = c.if-count-eq0.false in
    let near = c.if-count-room.false in
    let within = c.loop-count.invariant.within in
    let fits : c.in-Ok.count ≤ length c.read_at.new.buf = let few = e.within in let kept = c.read_at.auto.buf in omega arith in
    record {
      so_far = more_read _ _ _ _ _ _ _ c.loop-count.invariant.so_far c.read_at.new.buf c.in-Ok.count c.take.new.self e.unchanged e.bytes e.reads_counted (omega arith) fits
          (λ bytes reads. subst (λ (t : List ℕ). Reads c.args.inst.now c.take.new.self (bytes ++ t) c.take.new.self.lines.fault) (take-append-le c.in-Ok.count c.read_at.new.buf _ fits) (c.take.ensures bytes reads));
      writes = e.writes_left ∙ c.loop-count.invariant.writes;
      within = omega arith;
    }
