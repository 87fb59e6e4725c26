use Rattle.drill_ring.proofs.RingCurrents.{both_fit}
use Rattle.drill_ring.proofs.drill_study.Goals as goal

pub returns-clause-fits : goal.returns-clause-fits
returns-clause-fits c =
    both_fit c.args.n _ _ (record { at_least = c.requires.ring.0; at_most = c.requires.ring.1 }) c.in_ok-study.ensures c.in_ok-currents.ensures
