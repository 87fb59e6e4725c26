use Rattle.std.proofs.Common.{◌≡◌, ◌-◌, length}
use Rattle.std.specs.Prelude.{find, not}
use Rattle.std.specs.List.{list_any, range_with_len}
use Rattle.coord_model.specs.StudyData.{study_data}
use Rattle.fault_table.specs.Table.{feeds, unfed_fault}
use Rattle.fault_table.proofs.table.unfed_fault.Given as goal

abbrev pub invariant-loop-fault : goal.invariant-loop-fault
invariant-loop-fault l =
    unfed_fault (study_data l.study) l.entries
    ≡ find (λ f. not (list_any (feeds (study_data l.study) f) l.entries)) (range_with_len l.fault (length (study_data l.study).faults - l.fault))
