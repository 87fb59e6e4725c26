use Rattle.std.proofs.Common.{List, ap, arith, length}
use Rattle.coord_model.specs.Choice.{choice_data}
use Rattle.coord_model.specs.declared.study.Row.{Row}
use Rattle.margin_rows.specs.Margin.{MeetsLoosely}
use Rattle.margin_rows.proofs.Placed.{all_rows}
use Rattle.why_cases.proofs.tests.is_loose.Goals as goal

pub returns : goal.returns
returns c met =
    all_rows c.args.inst.now (MeetsLoosely c.args.inst.now (choice_data c.args.choice.now)) c.loop-row.row
    (omega (arith, c.loop-row-test.false, ap (λ (rs : List Row). length rs) c.rows.ensures.value)) c.loop-row.invariant
