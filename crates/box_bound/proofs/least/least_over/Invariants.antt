use Rattle.box_bound.specs.RelayParts.{IsLeastPart, dials_of, pickups_of}
use Rattle.box_bound.specs.Standing.{IsSmall}
use Rattle.box_bound.proofs.least.least_over.Given as goal

abbrev pub invariant-loop-step : goal.invariant-loop-step
invariant-loop-step l = record {
  least : IsLeastPart l.inst l.lambda l.weights l.relay (record { low = (pickups_of l.ranges l.relay).low; past = l.step }) (dials_of l.ranges l.relay) l.least;
  small : IsSmall l.least;
}
