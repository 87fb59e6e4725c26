use Rattle.std.proofs.Common.{ℕ, ◌<◌}
use Rattle.coord_model.specs.Choice.{choice_data}
use Rattle.margin_rows.specs.Case.{row_at}
use Rattle.margin_rows.specs.Margin.{MeetsStrictly}
use Rattle.margin_rows.proofs.unmet.first_unmet.Given as goal

abbrev pub invariant-loop-row : goal.invariant-loop-row
invariant-loop-row l = (k : ℕ) → k < l.row → MeetsStrictly l.inst (choice_data l.choice) (row_at l.inst k)
