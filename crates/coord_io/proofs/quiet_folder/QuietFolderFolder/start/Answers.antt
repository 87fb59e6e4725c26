use Rattle.std.proofs.Common.{ap}
use Rattle.coord_io.proofs.QuietGoings.{emptied_becomes}
use Rattle.coord_io.proofs.quiet_folder.QuietFolderFolder.start.Goals as goal

pub returns-clause-started : goal.returns-clause-started
returns-clause-started c = emptied_becomes _ _ _ (ap (λ s. s.files) c.empty.ensures)
