use Rattle.std.proofs.Common.{◌≡◌, ◌++◌}
use Rattle.coord_model.specs.Allowed.{AreOnSteps}
use Rattle.coord_model.specs.Choice.{choice_data}
use Rattle.coord_model.specs.StudyData.{study_data}
use Rattle.coord_text.specs.Claims.{text_of}
use Rattle.settings_sheet.specs.RelayStops.{HasNamesBelow, first_lines}
use Rattle.settings_sheet.proofs.relay_lines.read_choice.Given as goal

abbrev pub invariant-loop-i : goal.invariant-loop-i
invariant-loop-i l = record {
  on_steps : AreOnSteps (study_data l.study) (choice_data l.choice);
  parts : l.text ≡ text_of (first_lines (study_data l.study) (choice_data l.choice) l.i) ++ l.left;
  names : HasNamesBelow (study_data l.study) l.i;
}
