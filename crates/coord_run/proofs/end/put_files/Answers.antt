use Rattle.std.proofs.Common.{List, ℕ, subst}
use Rattle.coord_io.specs.Files.{Becomes, StaysOrPart}
use Rattle.coord_io.specs.Outside.{Changes}
use Rattle.coord_text.specs.Claims.{text_of}
use Rattle.coord_run.specs.Handing.{cert_file, file_text}
use Rattle.coord_run.proofs.EndLaws.{cut_cert, cut_sheet, failed_so, written_both}
use Rattle.coord_run.proofs.end.put_files.Goals as goal

pub returns-in_default-put_lines-clause-unwritten : goal.returns-in_default-put_lines-clause-unwritten
returns-in_default-put_lines-clause-unwritten g c =
    let before = g.F.Folder.state c.args.folder.now in
    let after = g.F.Folder.state c.put_lines.new.folder in
    let files = c.args.files.now in
    cut_cert (cert_file files.cert) (file_text files.sheet) before after (failed_so c.put_lines.result c.in_default-put_lines.not-Ok c.put_lines.ensures.failed)
    (subst (λ (lines : List (List ℕ)). Changes before after (StaysOrPart files.cert.name.now (text_of lines))) c.in-Ok.ensures
    (failed_so c.put_lines.result c.in_default-put_lines.not-Ok c.put_lines.ensures.part))

pub returns-in-Ok-put_whole-clause-written : goal.returns-in-Ok-put_whole-clause-written
returns-in-Ok-put_whole-clause-written g c =
    let before = g.F.Folder.state c.args.folder.now in
    let between = g.F.Folder.state c.put_lines.new.folder in
    let after = g.F.Folder.state c.put_whole.new.folder in
    let files = c.args.files.now in
    written_both (cert_file files.cert) (file_text files.sheet) before between after
    (subst (λ (lines : List (List ℕ)). Changes before between (Becomes files.cert.name.now (text_of lines))) c.in-Ok.ensures c.in-Ok-put_lines.ensures.whole)
    (subst (λ (text : List ℕ). Changes between after (Becomes files.sheet.name.now text)) c.deref.ensures.value c.in-Ok-put_whole.ensures.whole)

pub returns-clause-unwritten : goal.returns-clause-unwritten
returns-clause-unwritten g c =
    let before = g.F.Folder.state c.args.folder.now in
    let between = g.F.Folder.state c.put_lines.new.folder in
    let after = g.F.Folder.state c.put_whole.new.folder in
    let files = c.args.files.now in
    cut_sheet (cert_file files.cert) (file_text files.sheet) before between after
    (subst (λ (lines : List (List ℕ)). Changes before between (Becomes files.cert.name.now (text_of lines))) c.in-Ok.ensures c.in-Ok-put_lines.ensures.whole)
    c.put_lines.ensures.writes_counted c.in-Err.ensures.failed
    (subst (λ (text : List ℕ). Changes between after (StaysOrPart files.sheet.name.now text)) c.deref.ensures.value c.in-Err.ensures.part)
