use Rattle.std.proofs.Common.{arith}
use Rattle.coord_model.specs.StudyData.{entries_of, study_data}
use Rattle.coord_run.proofs.DrillLaws.{ring_has_few}
use Rattle.coord_run.proofs.drill.ring.Goals as goal

pub unreachable-requires : goal.unreachable-requires
unreachable-requires c =
    let cause = rw c.in-Err-TooManyRows.field-0-is at c.in-Err-TooManyRows.ensures.refused in
    let ring = c.in_ok-study.ensures.exact in
    let few = ring_has_few c.args.n (study_data c.in_ok-study.study) (entries_of c.in_ok-study.currents) c.requires ring.0 ring.1 in
    omega (arith, cause, few)
