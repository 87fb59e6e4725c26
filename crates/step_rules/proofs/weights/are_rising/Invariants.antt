use Rattle.std.specs.Prelude.{ℕ, ◌+◌, ◌<◌, map, slice_index}
use Rattle.coord_model.specs.declared.weights.Weight.{Weight}
use Rattle.step_rules.proofs.weights.are_rising.Given as goal

abbrev pub invariant-loop-next : goal.invariant-loop-next
invariant-loop-next l = (k : ℕ) → k + 1 < l.next → slice_index (map (λ (w : Weight). w.row) l.rows) k < slice_index (map (λ (w : Weight). w.row) l.rows) (k + 1)
