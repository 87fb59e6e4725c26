use Rattle.std.proofs.Common.{◌≡◌, length, arith, subst, ◌++◌}
use Rattle.coord_model.specs.Choice.{choice_data}
use Rattle.coord_model.specs.StudyData.{study_data}
use Rattle.coord_text.specs.Claims.{text_of}
use Rattle.settings_sheet.specs.RelayStops.{first_lines}
use Rattle.settings_sheet.specs.SheetText.{relay_lines}
use Rattle.settings_sheet.proofs.Counting.{line_pushed}
use Rattle.settings_sheet.proofs.lines.push_relay_lines.Goals as goal

pub loop-i-preserved : goal.loop-i-preserved
loop-i-preserved c =
    let study = study_data c.args.study.now in
    let settings = choice_data c.args.choice.now in
    rw (c.in_ok-push_relay_line.ensures, c.loop-i.invariant)
    (line_pushed study settings c.loop-i.i c.index-in-loop-i.result.now c.index-in-loop-i-2.result.now c.index.result.now c.args.out.now.items
    (omega (arith, c.args.study.now.relays.ok.0)) c.index.ensures (omega (arith, c.args.study.now.relays.ok.0, c.requires.on_steps.pickups)) c.index-in-loop-i.ensures
    (omega (arith, c.args.study.now.relays.ok.0, c.requires.on_steps.dials)) c.index-in-loop-i-2.ensures)

pub returns : goal.returns
unfolding relay_lines
returns c =
    let study = study_data c.args.study.now in
    let settings = choice_data c.args.choice.now in
    let out = c.args.out.now.items in
    let last = c.loop-i.out.items in
    let end : c.loop-i.i ≡ length study.relays = omega (arith, c.args.study.now.relays.ok.0) in
    subst (λ k. last ≡ out ++ text_of (first_lines study settings k)) end c.loop-i.invariant
