use Rattle.std.proofs.Common.{ap, ◌∙◌}
use Rattle.coord_model.specs.Choice.{Settings}
use Rattle.margin_rows.specs.Lowest.{lowest_of}
use Rattle.margin_rows.proofs.LowestSettings.{lowest_first}
use Rattle.step_rules.proofs.Pickups.{first_pickups}
use Rattle.step_rules.proofs.offers.lowest_offer.Goals as goal

pub strict_least-requires : goal.strict_least-requires
strict_least-requires c =
    rw (c.deref.ensures.value ∙ ap (λ (s : Settings). s.pickup) c.in_ok-lowest.ensures.exact)
    (first_pickups c.args.inst.now (lowest_of c.args.ranges.now) (lowest_first c.args.inst.now c.args.ranges.now c.requires.fits c.requires.steps))
