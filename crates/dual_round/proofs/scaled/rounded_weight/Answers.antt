use Rattle.std.proofs.Common.{rules, ap, refl, to_z, of_z}
use mir.Syntax.{w128}
use Rattle.dual_round.proofs.Shifts.{weight_is}
use Rattle.dual_round.proofs.scaled.rounded_weight.Goals as goal

pub returns : goal.returns
returns c =
    weight_is c.args.v _ c.clamp.result _ c.args.places c.ranges.v c.requires.fits c.requires.at_least_one c.requires.at_most_64 refl
    c.clamp.ensures.value (ap (λ z. to_z w128 (of_z w128 z)) c.from.ensures) (search rules)
