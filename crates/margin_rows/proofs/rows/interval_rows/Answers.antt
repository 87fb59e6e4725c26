use Rattle.std.proofs.Common.{arith, refl, ap, length}
use Rattle.coord_model.specs.StudyData.{StudyData}
use Rattle.relay_pairs.proofs.Counted.{piece_yes}
use Rattle.margin_rows.proofs.WaitingRows.{too_many}
use Rattle.margin_rows.proofs.rows.interval_rows.Goals as goal

pub loop-fault-preserved : goal.loop-fault-preserved
loop-fault-preserved c = piece_yes _ c.loop-fault.fault c.loop-fault.rows.items _ c.loop-fault.invariant c.in_ok-push_rows_at.ensures

pub returns-then-len-clause-refused : goal.returns-then-len-clause-refused
returns-then-len-clause-refused c = (
  refl,
  too_many c.args.given.now c.loop-fault.fault 4096 c.loop-fault.rows.items c.push_rows_at.new.rows.items (omega (arith, ap (λ (s : StudyData). length s.faults) c.study.ensures.value)) c.loop-fault.invariant
      c.in_ok-push_rows_at.ensures (omega (arith, c.if-len.true, c.len.ensures, c.push_rows_at.new.rows.ok.0)),
)
