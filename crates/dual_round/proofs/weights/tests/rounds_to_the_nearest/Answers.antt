use Rattle.std.proofs.Common.{[], ◌∷◌, refl}
use Rattle.std.proofs.lemmas.Cmp.{nat_eq_equiv}
use Rattle.std.proofs.lemmas.Map.Made.{IsDistinct-from_count}
use Rattle.dual_round.proofs.weights.tests.rounds_to_the_nearest.Goals as goal

pub round-requires-clause-distinct : goal.round-requires-clause-distinct
round-requires-clause-distinct g c = IsDistinct-from_count nat_eq_equiv (0 ∷ 1 ∷ []) refl
