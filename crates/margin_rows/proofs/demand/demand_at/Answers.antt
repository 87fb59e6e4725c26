use Rattle.std.proofs.Common.{arith, ap, length}
use Rattle.coord_model.specs.StudyData.{StudyData}
use Rattle.margin_rows.proofs.Listed.{row_facts}
use Rattle.margin_rows.proofs.demand.demand_at.Goals as goal

pub asked_ms-requires : goal.asked_ms-requires
asked_ms-requires c = omega (arith, (row_facts c.args.given.now c.args.row.now c.requires).primary, ap (λ (s : StudyData). length s.relays) c.study.ensures.value)

pub granted_ms-requires : goal.granted_ms-requires
granted_ms-requires c = omega (arith, (row_facts c.args.given.now c.args.row.now c.requires).primary, ap (λ (s : StudyData). length s.relays) c.study-2.ensures.value)
