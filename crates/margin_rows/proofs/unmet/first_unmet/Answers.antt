use Rattle.std.proofs.Common.{arith, ap, length, List}
use Rattle.coord_model.specs.Choice.{choice_data}
use Rattle.coord_model.specs.declared.study.Row.{Row}
use Rattle.margin_rows.specs.Margin.{MeetsStrictly}
use Rattle.margin_rows.proofs.Placed.{all_rows}
use Rattle.margin_rows.proofs.unmet.first_unmet.Goals as goal

pub returns-clause-met : goal.returns-clause-met
returns-clause-met c _ =
    all_rows c.args.inst.now (MeetsStrictly c.args.inst.now (choice_data c.args.choice.now)) c.loop-row.row (omega (arith, c.loop-row-test.false, ap (λ (rs : List Row). length rs) c.rows.ensures.value)) c.loop-row.invariant
