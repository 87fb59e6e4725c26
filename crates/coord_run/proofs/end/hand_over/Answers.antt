use Rattle.coord_run.proofs.end.hand_over.Goals as goal

pub returns-in-Ok : goal.returns-in-Ok
returns-in-Ok g c = rw c.in-Ok.is c.deliver.ensures
