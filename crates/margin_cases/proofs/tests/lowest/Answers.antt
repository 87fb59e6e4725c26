use Rattle.coord_model.specs.Choice.{choice_data}
use Rattle.margin_rows.proofs.Inside.{box_lies_first}
use Rattle.margin_cases.proofs.tests.lowest.Goals as goal

pub returns-then-holds : goal.returns-then-holds
returns-then-holds c =
    box_lies_first c.args.inst.now c.in_ok-first.first (choice_data c.in_ok-lowest.lowest) c.in_ok-first.ensures.fits (c.holds.ensures.0 c.if-holds.true)
