use Rattle.std.proofs.Common.{◌≡◌, ◌∙◌, ◌+◌, ◌-◌, false, not, suc, length, ap, sym, arith}
use Rattle.std.specs.List.{list_any}
use Rattle.coord_model.specs.StudyData.{study_data}
use Rattle.fault_table.specs.Table.{feeds}
use Rattle.fault_table.proofs.TableReads.{find-counting}
use Rattle.fault_table.proofs.table.unfed_fault.Goals as goal

pub loop-fault-preserved : goal.loop-fault-preserved
loop-fault-preserved c =
    let study = study_data c.args.study.now in
    let count = length study.faults in
    let f = c.loop-fault.fault in
    let more : count - f ≡ suc (count - (f + 1)) = omega (arith, c.args.study.now.faults.ok.0) in
    let fed : not (list_any (feeds study f) c.args.entries.now) ≡ false = ap not (sym c.if-not-is_fed.ensures) in
    c.loop-fault.invariant ∙ find-counting (λ x. not (list_any (feeds study x) c.args.entries.now)) f (count - f) (count - (f + 1)) more fed
