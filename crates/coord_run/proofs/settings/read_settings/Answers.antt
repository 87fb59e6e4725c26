use Rattle.std.proofs.Common.{Some, inr, refl, ap, subst, sym, ◌∙◌}
use Rattle.std.specs.Option.{option_map}
use Rattle.coord_model.specs.Choice.{choice_data}
use Rattle.coord_model.specs.declared.choice.Choice.{Choice}
use Rattle.coord_run.specs.Settings.{NamesOutside}
use Rattle.coord_run.proofs.SettingsLaws.{gives}
use Rattle.settings_sheet.specs.SheetText.{sheet_data}
use Rattle.coord_run.proofs.settings.read_settings.Goals as goal

pub returns-in_default-clause-read : goal.returns-in_default-clause-read
returns-in_default-clause-read g c =
    let before = g.F.Folder.state c.args.folder.now in
    let after = g.F.Folder.state c.read_sheet_file.new.folder in
    gives before after c.args.name.now c.args.inst.now (sheet_data c.in_ok-sheet.sheet) _ c.in_ok-sheet.ensures.read (ap (option_map choice_data) c.in_default.is)

pub returns-in-Some-first_outside-clause-stopped : goal.returns-in-Some-first_outside-clause-stopped
returns-in-Some-first_outside-clause-stopped g c =
    let before = g.F.Folder.state c.args.folder.now in
    let after = g.F.Folder.state c.read_sheet_file.new.folder in
    inr (inr (
      choice_data c.in-Some.choice,
      c.name_of.result,
      refl,
      gives before after c.args.name.now c.args.inst.now (sheet_data c.in_ok-sheet.sheet) _ c.in_ok-sheet.ensures.read (ap (option_map choice_data) c.in-Some.is),
      subst (λ (choice : Choice). NamesOutside c.args.inst.now (choice_data choice) c.name_of.result) c.in-Some.choice-is
          (record { relay = c.in-Some-first_outside.relay; first = c.in-Some-first_outside.ensures.outside; named = c.name_of.ensures }),
    ))

pub returns-in-None-clause-read : goal.returns-in-None-clause-read
returns-in-None-clause-read g c =
    let before = g.F.Folder.state c.args.folder.now in
    let after = g.F.Folder.state c.read_sheet_file.new.folder in
    gives before after c.args.name.now c.args.inst.now (sheet_data c.in_ok-sheet.sheet) _ c.in_ok-sheet.ensures.read
    (ap (option_map choice_data) c.in-Some.is ∙ sym (ap (λ (choice : Choice). Some (choice_data choice)) c.in-Some.choice-is))
