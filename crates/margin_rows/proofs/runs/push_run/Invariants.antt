use Rattle.std.proofs.Common.{◌≡◌, ◌++◌, map}
use Rattle.std.specs.List.{range_with_len}
use Rattle.coord_model.specs.StudyData.{study_data}
use Rattle.margin_rows.specs.Tables.{cell}
use Rattle.margin_rows.proofs.runs.push_run.Given as goal

abbrev pub invariant-loop-step : goal.invariant-loop-step
invariant-loop-step l = l.times.items ≡ l.initial.times.items ++ map (cell (study_data l.study) l.relay l.amps) (range_with_len 0 l.step)
