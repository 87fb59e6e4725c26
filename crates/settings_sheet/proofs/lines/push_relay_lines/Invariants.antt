use Rattle.std.proofs.Common.{◌≡◌, ◌++◌}
use Rattle.coord_model.specs.Choice.{choice_data}
use Rattle.coord_model.specs.StudyData.{study_data}
use Rattle.coord_text.specs.Claims.{text_of}
use Rattle.settings_sheet.specs.RelayStops.{first_lines}
use Rattle.settings_sheet.proofs.lines.push_relay_lines.Given as goal

abbrev pub invariant-loop-i : goal.invariant-loop-i
invariant-loop-i l = l.out.items ≡ l.initial.out.items ++ text_of (first_lines (study_data l.study) (choice_data l.choice) l.i)
