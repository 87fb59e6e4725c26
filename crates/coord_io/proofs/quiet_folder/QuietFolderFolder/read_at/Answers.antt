use Rattle.std.proofs.Common.{◌≡◌, Some, None, List, true, sym, ap, ◌∙◌, option_copied}
use Rattle.coord_io.specs.Files.{held}
use Rattle.coord_io.specs.Quiet.{quiet_files}
use Rattle.coord_io.specs.declared.quiet_file.QuietFile.{QuietFile}
use Rattle.coord_io.proofs.QuietGoings.{missing_told, reads_told, told_is}
use Rattle.coord_io.proofs.quiet_folder.QuietFolderFolder.read_at.Goals as goal

pub returns-in_default-clause-missing : goal.returns-in_default-clause-missing
returns-in_default-clause-missing c = λ missing.
    let tells : c.self.inside.tells ≡ true = search in
    let told : c.args.self.now.files ≡ Some (quiet_files c.self.inside.files.items) = told_is _ _ _ (sym (ap (λ s. s.files) c.self.view_is)) tells in
    let none : held (quiet_files c.self.inside.files.items) c.args.name.now ≡ None =
    ap (λ (files : List QuietFile). held (quiet_files files) c.args.name.now) (sym c.deref.ensures.value) ∙ sym c.bytes_of.ensures ∙ ap option_copied c.in_default.is in
    missing_told _ _ _ told none

pub returns-clause-bytes : goal.returns-clause-bytes
returns-clause-bytes c =
    let tells : c.self.inside.tells ≡ true = search in
    let told : c.args.self.now.files ≡ Some (quiet_files c.self.inside.files.items) = told_is _ _ _ (sym (ap (λ s. s.files) c.self.view_is)) tells in
    let some : held (quiet_files c.self.inside.files.items) c.args.name.now ≡ Some c.in-Some.bytes.now =
    ap (λ (files : List QuietFile). held (quiet_files files) c.args.name.now) (sym c.deref.ensures.value) ∙ sym c.bytes_of.ensures ∙ ap option_copied c.in-Some.is in
    reads_told _ _ _ _ _ _ _ told some c.copy_from.ensures.front
