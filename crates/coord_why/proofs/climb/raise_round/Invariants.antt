use Rattle.coord_model.specs.Choice.{choice_data}
use Rattle.coord_why.specs.Climbs.{IsClimb, IsSoFar}
use Rattle.coord_why.proofs.climb.raise_round.Given as goal

abbrev pub invariant-loop-row : goal.invariant-loop-row
invariant-loop-row l = record {
  climb : IsClimb l.inst (choice_data l.choice) l.climb;
  so_far : IsSoFar l.inst l.fn.climb l.climb l.row l.rose;
}
