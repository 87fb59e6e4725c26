use Rattle.std.proofs.Common.{ℕ, ◌<◌}
use Rattle.coord_model.specs.Choice.{choice_data}
use Rattle.margin_rows.specs.Case.{row_at}
use Rattle.margin_rows.specs.Margin.{MeetsLoosely}
use Rattle.why_cases.proofs.tests.is_loose.Given as goal

abbrev pub invariant-loop-row : goal.invariant-loop-row
invariant-loop-row l = (earlier : ℕ) → earlier < l.row → MeetsLoosely l.inst (choice_data l.choice) (row_at l.inst earlier)
