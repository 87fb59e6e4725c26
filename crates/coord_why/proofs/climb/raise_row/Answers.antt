use Rattle.coord_model.specs.Choice.{choice_data}
use Rattle.coord_why.proofs.Added.{added_climb, added_higher}
use Rattle.coord_why.proofs.climb.raise_row.Goals as goal

pub returns-clause-climb : goal.returns-clause-climb
returns-clause-climb c =
    added_climb c.args.inst.now (choice_data c.args.choice.now) c.args.climb.now c.add.new.climb c.raise_for-raise.result c.requires.climb c.raise_for-raise.ensures c.in_ok-add.ensures

pub returns-clause-higher : goal.returns-clause-higher
returns-clause-higher c rose =
    added_higher c.args.inst.now (choice_data c.args.choice.now) c.args.climb.now c.add.new.climb c.raise_for-raise.result c.requires.climb c.raise_for-raise.ensures c.in_ok-add.ensures
