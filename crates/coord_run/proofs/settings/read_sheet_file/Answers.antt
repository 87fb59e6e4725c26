use Rattle.std.proofs.Common.{◌≡◌, ◌∙◌, ap, inl, inr, refl, sym}
use Rattle.coord_model.specs.StudyData.{StudyData}
use Rattle.coord_run.proofs.ReadingLaws.{held_as}
use Rattle.settings_sheet.specs.SheetFaults.{StopsAt}
use Rattle.settings_sheet.specs.SheetText.{IsSheet, sheet_data, sheet_text}
use Rattle.coord_run.proofs.settings.read_sheet_file.Goals as goal

pub returns-in-Ok-clause-read : goal.returns-in-Ok-clause-read
returns-in-Ok-clause-read g c =
    let before = g.F.Folder.state c.args.folder.now in
    let after = g.F.Folder.state c.read_file.new.folder in
    let study = c.args.inst.now.study in
    let is = rw c.study.ensures.value at c.in-Ok.ensures.is in
    let said = sym c.as_slice.ensures.value ∙ c.in-Ok.ensures.said ∙ ap (λ (s : StudyData). sheet_text s (sheet_data c.in-Ok.sheet)) c.study.ensures.value in
    held_as before after c.args.name.now c.in_ok-bytes.bytes.items (λ b. IsSheet study (sheet_data c.in-Ok.sheet) × (b ≡ sheet_text study (sheet_data c.in-Ok.sheet)))
    c.in_ok-bytes.ensures.within c.in_ok-bytes.ensures.read (is, said)

pub returns-in-Err-Fault-clause-stopped : goal.returns-in-Err-Fault-clause-stopped
returns-in-Err-Fault-clause-stopped g c =
    let before = g.F.Folder.state c.args.folder.now in
    let after = g.F.Folder.state c.read_file.new.folder in
    let study = c.args.inst.now.study in
    let refusal = rw c.in-Err-Fault.field-0-is at c.in-Err-Fault.ensures.stops in
    let stops = rw (c.study.ensures.value, c.as_slice.ensures.value) at refusal in
    inr (inl (
      c.in-Err-Fault.line,
      c.in-Err-Fault.kind,
      refl,
      held_as before after c.args.name.now c.in_ok-bytes.bytes.items (λ b. StopsAt study b c.in-Err-Fault.line c.in-Err-Fault.kind)
          c.in_ok-bytes.ensures.within c.in_ok-bytes.ensures.read stops,
    ))
