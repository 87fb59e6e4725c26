use Rattle.std.proofs.Common.{◌≡◌, Some, None, List, sym, ap, ◌∙◌, option_copied}
use Rattle.coord_io.specs.Files.{held}
use Rattle.coord_io.specs.Memory.{files_of}
use Rattle.coord_io.specs.declared.mem_file.MemFile.{MemFile}
use Rattle.coord_io.proofs.Goings.{goes_here, goes_viewed}
use Rattle.coord_io.proofs.mem_folder.MemFolderFolder.read_at.Goals as goal

pub returns-then-is_due-clause-unchanged : goal.returns-then-is_due-clause-unchanged
returns-then-is_due-clause-unchanged c = goes_here (ap (λ s. s.files) c.self.view_is)

pub returns-in_default-clause-missing : goal.returns-in_default-clause-missing
returns-in_default-clause-missing c = λ missing.
    let none : held (files_of c.self.inside.files.items) c.args.name.now ≡ None =
    ap (λ (files : List MemFile). held (files_of files) c.args.name.now) (sym c.deref.ensures.value) ∙ sym c.bytes_of.ensures ∙ ap option_copied c.in_default.is in
    record {
      absent = goes_viewed (ap (λ s. s.files) c.self.view_is) (none, ap (λ s. s.reads) c.self.view_is);
      untold = λ is. cc;
    }

pub returns-in_default-clause-unchanged : goal.returns-in_default-clause-unchanged
returns-in_default-clause-unchanged c = goes_here (ap (λ s. s.files) c.self.view_is)

pub returns-clause-bytes : goal.returns-clause-bytes
returns-clause-bytes c =
    let some : held (files_of c.self.inside.files.items) c.args.name.now ≡ Some c.in-Some.bytes.now =
    ap (λ (files : List MemFile). held (files_of files) c.args.name.now) (sym c.deref.ensures.value) ∙ sym c.bytes_of.ensures ∙ ap option_copied c.in-Some.is in
    goes_viewed (ap (λ s. s.files) c.self.view_is) (c.in-Some.bytes.now, some, c.copy_from.ensures.front)

pub returns-clause-unchanged : goal.returns-clause-unchanged
returns-clause-unchanged c = goes_here (ap (λ s. s.files) c.self.view_is)
