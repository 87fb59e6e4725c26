use Rattle.settings_sheet.specs.SheetLines.{head_lines, settings_lines}
use Rattle.std.specs.Option.{option_map}
use Rattle.coord_model.specs.Choice.{choice_data}
use Rattle.coord_model.specs.StudyData.{study_data}
use Rattle.settings_sheet.proofs.Whole.{parts_pushed}
use Rattle.settings_sheet.proofs.text.sheet_bytes.Goals as goal

pub returns : goal.returns
returns c =
    rw (c.in_ok-extend_from_slice.ensures.items, c.in_ok-push_settings.ensures, c.in_ok-push_head.ensures, c.new-out.ensures.items)
    (parts_pushed (head_lines c.args.sheet.now.ending c.args.sheet.now.cost c.args.sheet.now.bound)
    (settings_lines (study_data c.args.study.now) (option_map choice_data c.args.sheet.now.choice)))
