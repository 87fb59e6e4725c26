-- From the definitions alone.
use Rattle.coord_model.proofs.OrderLaws as laws
use Rattle.coord_model.proofs.order.under_is_at_most_over.Goals as goal

pub returns : goal.returns
returns c = laws.under_is_at_most_over
