use Rattle.coord_model.specs.Choice.{choice_data}
use Rattle.margin_rows.proofs.Boxed.{strict_allowed}
use Rattle.cert_check.proofs.settings.costs.Goals as goal

pub returns-clause-allowed : goal.returns-clause-allowed
returns-clause-allowed c =
    strict_allowed c.args.inst.now (choice_data c.args.choice.now) c.cost-found.ensures.fits c.requires.inside c.requires.meets

pub returns-then-printed-found-clause-allowed : goal.returns-then-printed-found-clause-allowed
returns-then-printed-found-clause-allowed c =
    strict_allowed c.args.inst.now (choice_data c.args.choice.now) c.cost-found.ensures.fits c.requires.inside c.requires.meets
